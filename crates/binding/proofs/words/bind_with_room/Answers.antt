-- Where no open application has an open head each class is named by its head.
use mathlib.Core.Path.{◌∙◌}
use Rattle.binding.proofs.NotingLaws.{open_applied}
use Rattle.binding.proofs.PlainLaws.{heads_below, nodes_headed}
use Rattle.binding.proofs.PrefixLaws.{themselves_named, none_leads}
use Rattle.binding.proofs.BindingLaws.{least_nodes_lem, found_leaves}
use Rattle.binding.proofs.words.bind_with_room.Goals as goal

pub some_leads-requires : goal.some_leads-requires
some_leads-requires c =
    let p = c.requires in (
      nodes_headed c.args.nodes.now _ _ p.formed.0.partition (record { node = p.formed.1.node }),
      heads_below _ _ _ p.sections.1.enough
          p.formed.0.partition,
    )

pub bind_named-requires : goal.bind_named-requires
bind_named-requires c =
    let p = c.requires in
    let t = c.name_themselves in record {
      sections = p.sections;
      formed = p.formed;
      list_value = p.list_value;
      names_len = (t.auto.names ∙ p.names_len.0, t.ensures, p.names_len.1);
    }

pub find_words-requires : goal.find_words-requires
find_words-requires c =
    let p = c.requires in
    let t = c.name_themselves in
    let z = none_leads _ _ _ _ p.formed.1 p.formed.0.partition
    (c.some_leads.ensures c.if-some_leads.false) in
    let m = themselves_named _ _ p.sections.0 _ _ p.sections.1 p.formed.0 t.new.names (t.auto.names ∙ p.names_len.0) t.ensures z in record {
      head_names = m.0;
      are_applied = open_applied _ _ _ p.formed.1;
      are_nodes = (least_nodes_lem _ _ _ p.list_value.0, p.names_len.1, p.list_value.1);
    }

pub returns : goal.returns
returns c =
    let p = c.requires in
    let t = c.name_themselves in
    let z = none_leads _ _ _ _ p.formed.1 p.formed.0.partition
    (c.some_leads.ensures
    c.if-some_leads.false) in
    let m = themselves_named _ _ p.sections.0 _ _ p.sections.1 p.formed.0 t.new.names (t.auto.names ∙ p.names_len.0) t.ensures z in
    found_leaves _ _ _ _ _ _ _ _ _ c.find_words.ensures m.0 m.1 p.sections.1 p.formed.1 p.formed.0
    p.list_value.0
