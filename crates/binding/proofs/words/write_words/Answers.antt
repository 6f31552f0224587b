use mathlib.Core.Path.{◌≡◌, ◌∙◌}
use native.Mathlib.Omega.{arith}
use borrow.Author.Rules.{rules}
use lib.ListN.{length}
use Rattle.table.specs.Layout.{word}
use Rattle.nodes.specs.Code.Named.{value_name}
use Rattle.binding.specs.Code.Binding.{read_at}
use Rattle.binding.proofs.NotingLaws.{read_none, read_next, read_all}
use Rattle.binding.proofs.words.write_words.Goals as goal

pub loop-k-init : goal.loop-k-init
loop-k-init c = read_none _ _ _

pub loop-k-preserved : goal.loop-k-preserved
loop-k-preserved c =
    rw c.loop-k.invariant (read_next _ _ _ _ _ c.loop-k-test.true (search rules) c.binding_word.ensures)

pub returns : goal.returns
unfolding read_at
returns c =
    let l = c.loop-k in
    let a = c.args in
    let e : l.k ≡ length a.list.now = omega arith in
    l.invariant ∙ read_all (λ v. word a.by.now (value_name a.heads.now a.names.now v)) a.list.now a.out.now l.k e
