-- A pair that clashes or makes a cycle never joins; otherwise the joins are undone.
use mathlib.Core.Bool.{false≢true}
use mathlib.Core.Path.{◌≡◌, refl, sym, ◌∙◌}
use native.Mathlib.Omega.{arith}
use Rattle.unification.specs.declared.Unification.TheVariants.{Unified}
use Rattle.classes.proofs.TrailLaws.{merges_since, merges_back}
use Rattle.ahead.proofs.StruckLaws.{failed_never}
use Rattle.ahead.proofs.pairs.try_pair.Goals as goal

pub joins-requires : goal.joins-requires
joins-requires c =
    let x = c.requires.formed.0.partition.below c.args.a.0 c.requires.a_bound.0 in
    let y = c.requires.formed.0.partition.below c.args.b.0 c.requires.a_bound.1 in
    let d = c.node_in-g.ensures.0 in
    let e = c.node_in-h.ensures.0 in record {
      known_of = (c.requires.known_of, c.requires.formed.0);
      g_bound = (omega (arith, x, d), omega (arith, y, e));
    }

pub returns-then-joins : goal.returns-then-joins
returns-then-joins c = record {
  never_joins = (λ z. absurd (false≢true (sym z)));
  heads_unchanged = (refl, refl);
}

pub bounds-next-256 : goal.bounds-next-256
bounds-next-256 c =
    let l = c.requires.formed.1.size in
    omega (arith, l)

pub extend-requires : goal.extend-requires
extend-requires c =
    let p = c.requires in record {
      sections = (p.known_of.sections, p.known_of.counts);
      formed = p.formed;
      a_bound = p.a_bound;
    }

pub undo-requires : goal.undo-requires
undo-requires c =
    let x = c.extend in
    merges_since c.requires.formed.1 (x.auto.heads ∙ c.requires.formed.0.partition.size) x.ensures.merges

pub returns-then-ne : goal.returns-then-ne
returns-then-ne c =
    let x = c.extend.ensures in
    let n : c.extend.result ≡ Unified → ⊥ = λ z. false≢true (sym (rw z at c.ne.ensures) ∙ c.if-ne.true) in record {
      never_joins = (λ z. failed_never _ _ _ c.requires.known_of.sections _ c.requires.formed.0 c.args.a.0 c.args.b.0 c.requires.a_bound.0
          c.requires.a_bound.1 _ _ _ _ n x);
      heads_unchanged = x.failed n;
    }

pub returns : goal.returns
returns c =
    let x = c.extend in record {
      never_joins = (λ z. absurd (false≢true (sym z)));
      heads_unchanged = merges_back (x.auto.heads ∙ c.requires.formed.0.partition.size) x.ensures.merges c.undo.ensures;
    }
