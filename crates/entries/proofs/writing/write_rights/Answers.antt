use native.Mathlib.Omega.{arith}
use borrow.Author.Rules.{rules}
use lib.ListN.{length}
use Rattle.std.proofs.lemmas.Result.{err_from_is_err_and}
use Rattle.entries.specs.Code.Writing.{Block, right_entries}
use Rattle.entries.proofs.WritingLaws.{writes_long, writes_room}
use Rattle.entries.proofs.RightLaws.{rights_few, rights_first, rights_skip, rights_block, rights_repeat, rights_full, rights_last}
use Rattle.entries.proofs.writing.write_rights.Goals as goal
use Rattle.entries.proofs.writing.write_rights.Goals.{Then-entry-q-ne0}

-- the entries that the invariant speaks of stand there
standing : (c : Then-entry-q-ne0) → Block (right_entries c.args.k c.args.entry.now c.loop-q.q c.args.end) (length c.args.entry.now) c.loop-q.out
    c.args.at c.loop-q.used
standing c =
    let a = c.args in
    let g = c.requires.k_le_max_labels in
    let w = c.loop-q.invariant.3 a.out.now g.3 c.copy.ensures in
    rights_block a.k a.entry.now a.p c.loop-q.q a.end c.loop-q-test.true (omega arith) g.2 w (omega (arith, g.3))

pub returns-then-k-lt2 : goal.returns-then-k-lt2
returns-then-k-lt2 c =
    let a = c.args in
    let g = c.requires.k_le_max_labels in
    rights_few a.k a.entry.now a.p a.end a.out.now a.at c.if-k-lt2.true g.1 g.2 c.requires.nonzero.1 g.3
    c.copy.ensures

pub loop-q-init : goal.loop-q-init
loop-q-init c =
    let a = c.args in
    (search rules, search rules, search rules, λ lent m e. rights_first a.k a.entry.now a.end lent a.at m e)

pub returns-in_err-used : goal.returns-in_err-used
returns-in_err-used c =
    let a = c.args in
    let g = c.requires.k_le_max_labels in
    let l = c.loop-q in
    let w = l.invariant.3 a.out.now g.3 c.copy.ensures in
    let e = c.in_err-used.ensures _ (standing (goal.at.returns-in_err-used c).Then-entry-q-ne0) in
    let f = err_from_is_err_and c.from_residual.result c.from_residual.ensures.1 in
    rw f.1 (rights_full a.k a.entry.now a.p l.q a.end c.loop-q-test.true (omega arith) g.2 w (omega (arith, g.3)) c.requires.nonzero.1
    c.if-entry-q-ne0.true e)

pub loop-q-preserved-then-entry-q-ne0 : goal.loop-q-preserved-then-entry-q-ne0
loop-q-preserved-then-entry-q-ne0 c =
    let a = c.args in
    let g = c.requires.k_le_max_labels in
    let l = c.loop-q in
    let e = c.in_ok-used.ensures _ (standing (goal.at.loop-q-preserved-then-entry-q-ne0 c).Then-entry-q-ne0) in
    let r = writes_room l.invariant.2 e in (
      search rules,
      omega (arith, r.0, l.invariant.1),
      omega (arith, r.1, writes_long l.invariant.2 e),
      λ lent m q. rights_repeat a.k a.entry.now a.p l.q a.end c.loop-q-test.true (omega arith) g.2 (l.invariant.3 lent m q) (omega (arith, m))
          c.requires.nonzero.1 c.if-entry-q-ne0.true e,
    )

pub loop-q-preserved : goal.loop-q-preserved
loop-q-preserved c =
    let a = c.args in
    let l = c.loop-q in (
      search rules,
      search rules,
      search rules,
      λ lent m e. rights_skip a.k a.entry.now a.p l.q a.end c.loop-q-test.true (omega arith) c.requires.k_le_max_labels.2
          (l.invariant.3 lent m e) c.if-entry-q-ne0.false,
    )

pub returns : goal.returns
returns c =
    let a = c.args in
    let l = c.loop-q in
    rights_last a.k a.entry.now a.p l.q a.end (omega (arith, l.invariant.0, c.loop-q-test.false))
    (l.invariant.3 a.out.now c.requires.k_le_max_labels.3 c.copy.ensures)
