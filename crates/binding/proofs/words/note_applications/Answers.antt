use mathlib.Core.Path.{◌≡◌}
use native.Mathlib.Omega.{arith}
use lib.ListN.{length}
use Rattle.binding.proofs.NotingLaws.{noted_none, noted_next}
use Rattle.binding.proofs.words.note_applications.Goals as goal

pub loop-i-init : goal.loop-i-init
loop-i-init c = noted_none _ _ _ _ c.requires.head_names _ _ c.requires.by_len.0 c.requires.by_len.1

pub note_application-requires : goal.note_application-requires
note_application-requires c =
    let l = c.loop-i in
    let b = c.requires.are_applied.node l.i-index c.loop-i-test.true in record {
      head_names = c.requires.head_names;
      i_bound = (rw c.from.ensures b, l.invariant.long);
    }

pub loop-i-preserved : goal.loop-i-preserved
loop-i-preserved c =
    let l = c.loop-i in
    rw (c.note_application.ensures, c.from.ensures)
    (noted_next _ _ _ _ c.requires.head_names _ c.requires.are_applied _ l.i-index c.loop-i-test.true l.invariant)

pub returns : goal.returns
returns c =
    let l = c.loop-i in
    let e : l.i-index ≡ length c.args.opens.now = omega arith in
    rw e at l.invariant
