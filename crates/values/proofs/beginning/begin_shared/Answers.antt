-- Nodes of one term are put together, and the variables present are listed behind the open applications.
use native.Mathlib.Omega.{arith}
use Rattle.values.proofs.LeastLaws.{least_all, least_end, none_named}
use Rattle.values.proofs.PresentLaws.{present_lists}
use Rattle.values.proofs.CirclesBeginLaws.{circles_none}
use Rattle.values.proofs.SharedLaws.{shared_together, begun_shared}
use Rattle.values.proofs.BeginLaws.{sharing_none, none_noted, all_trailed, all_counted}
use Rattle.values.proofs.beginning.begin_shared.Goals as goal

pub share_nodes-counted-requires : goal.share_nodes-counted-requires
share_nodes-counted-requires c =
    let p = c.requires in
    let n = c.node_count-n in record {
      sharing = (sharing_none _ _ _ _ p.sections p.heads_len.0 c.new-table.ensures, none_noted _ _ n.ensures.0);
      circles_before = (circles_none _ _ p.heads_len.1, omega (arith, p.heads_len.2));
    }

pub list_variables-variables-requires : goal.list_variables-variables-requires
list_variables-variables-requires c =
    let p = c.requires in
    let n = c.node_count-n in
    let e = c.share_nodes-counted.ensures in record {
      least_len = (e.least_before.0.long, omega (arith, p.heads_len.2, e.open_before.size), n.ensures.1);
      none_from = none_named _ _ _ _ n.ensures.0 (least_end _ _ _ e.least_before.0);
    }

pub returns : goal.returns
returns c =
    let p = c.requires in
    let n = c.node_count-n in
    let e = c.share_nodes-counted.ensures in
    let v = c.list_variables-variables.ensures in
    let l = present_lists _ _ _ _ _ _ _ p.sections (least_all _ _ _ _ p.sections e.least_before.0) n.ensures.0 v in
    let o = all_counted _ _ _ _ _ _ p.sections p.heads_len.2 e.open_before v.others in record {
      begins_shared = begun_shared l (shared_together _ _ _ e.heads_before);
      trailed = all_trailed _ _ _ _ e.heads_before e.least_before.1;
      counts = o.0;
      opens_lt_max_nodes = o.1.0;
      open_listed = o.1.1.0;
      by_index = o.1.1.1;
    }
