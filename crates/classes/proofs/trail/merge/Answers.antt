use Prim.Native.Nat.{ℕ}
use mathlib.Core.List.{List}
use mathlib.Core.Path.{ap, ◌∙◌}
use Rattle.nodes.specs.Code.Trail.{noted_gone}
use Rattle.classes.proofs.TrailLaws.{relabels_renames, note_ready}
use Rattle.classes.proofs.trail.merge.Goals as goal

pub note-requires : goal.note-requires
note-requires c =
    let p = c.requires in
    note_ready _ _ _ _ _ p.0 p.1 _ c.link.ensures

pub returns : goal.returns
returns c =
    let p = c.requires in
    record {
      two = p.0;
      trailed = p.1;
      renames = relabels_renames _ _ _ _ _ p.0 _ c.relabel.ensures;
      linked = c.note.ensures ∙ ap (λ (l : List ℕ). noted_gone l c.args.from) c.link.ensures;
    }
