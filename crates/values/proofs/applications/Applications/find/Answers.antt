use mathlib.Core.Bool.{false}
use borrow.Author.Rules.{rules}
use Rattle.values.proofs.ReachedLaws.{cursor_here, cursor_onward, cursor_passed, cursor_falls}
use Rattle.values.proofs.applications.Applications.find.Goals as goal

pub passes-requires : goal.passes-requires
passes-requires g c =
    let l = c.loop-cursor in
    let h = cursor_here _ l.cursor _ _ c.in-Some.is c.from-q.ensures in
    let w = c.requires.callable c.from-q.result (l.invariant.ahead _ h) in
    search rules

pub returns-then-passes : goal.returns-then-passes
returns-then-passes g c =
    let l = c.loop-cursor in
    (l.invariant.ahead _ (cursor_here _ l.cursor _ _ c.in-Some.is c.from-q.ensures), c.if-passes.ensures)

pub loop-cursor-smaller : goal.loop-cursor-smaller
loop-cursor-smaller g c =
    let l = c.loop-cursor in
    let h = l.invariant.ahead _ (cursor_here _ l.cursor _ _ c.in-Some.is c.from-q.ensures) in
    cursor_falls _ l.cursor _ _ c.in-Some.is c.from-q.ensures (λ b e. c.requires.falls c.from-q.result b h e)

pub loop-cursor-preserved : goal.loop-cursor-preserved
loop-cursor-preserved g c =
    let l = c.loop-cursor in
    record {
      ahead = λ r h. l.invariant.ahead r (cursor_onward _ l.cursor _ _ c.in-Some.is c.from-q.ensures r h);
      passed = λ r h.
          cursor_passed _ l.cursor _ _ c.in-Some.is c.from-q.ensures (λ q. goal.F-post g c.args.passes q false) c.if-passes.ensures r
          (l.invariant.passed r h);
    }
