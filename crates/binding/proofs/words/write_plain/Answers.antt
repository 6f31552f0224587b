use mathlib.Core.Path.{◌≡◌, ◌∙◌}
use native.Mathlib.Omega.{arith}
use borrow.Author.Rules.{rules}
use lib.ListN.{length}
use Rattle.binding.specs.Code.Binding.{plain_word, plain_at}
use Rattle.binding.proofs.NotingLaws.{read_none, read_next, read_all}
use Rattle.binding.proofs.words.write_plain.Goals as goal

pub loop-p-init : goal.loop-p-init
loop-p-init c = read_none _ _ _

pub loop-p-preserved : goal.loop-p-preserved
loop-p-preserved c =
    rw c.loop-p.invariant (read_next _ _ _ _ _ c.loop-p-test.true (search rules) c.plain_word.ensures)

pub returns : goal.returns
unfolding plain_at
returns c =
    let l = c.loop-p in
    let a = c.args in
    let e : l.p ≡ length a.list.now = omega arith in
    l.invariant ∙ read_all (plain_word a.nodes.now a.heads.now a.by.now) a.list.now a.out.now l.p e
