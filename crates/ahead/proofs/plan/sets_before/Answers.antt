-- Each right term adds the sets to which it can be put, and those above the row add none.
use Prim.Native.Nat.{ℕ}
use mathlib.Core.Path.{refl}
use native.Mathlib.Omega.{arith}
use Rattle.ahead.specs.Code.Plan.{SetsBefore}
use Rattle.ahead.proofs.BitLaws.{before_first, before_0, before_1, before_2, before_3, before_4, before_5, before_6, before_7, before_end, or_one, or_two}
use Rattle.ahead.proofs.plan.sets_before.Goals as goal
use Rattle.ahead.proofs.plan.sets_before.Goals.{After-with_sets-c, After-with_sets-e, After-with_sets-g, Start}

-- The word has what the first n right terms add.
abbrev UpTo : Start → ℕ → ℕ → Type 0
UpTo s n r = SetsBefore s.args.can.now s.args.t s.args.x s.args.row n s.args.stay r

-- the first two right terms
two : (c : After-with_sets-c) → UpTo (goal.at.After-with_sets-c c).Start 2 c.with_sets-c.result
two c =
    let first = before_first c.args.can.now c.args.t c.args.x c.args.row _ _ _ refl c.with_sets-a.ensures in
    let one = before_0 _ _ _ _ _ _ _ _ _ _ refl first c.with_sets-b.ensures refl refl in
    before_1 _ _ _ _ _ _ _ _ _ _ refl one c.with_sets-c.ensures refl refl

-- the next two
four : (c : After-with_sets-e) → UpTo (goal.at.After-with_sets-e c).Start 4 c.with_sets-e.result
four c =
    let third = before_2 _ _ _ _ _ _ _ _ _ _ refl (two (goal.at.After-with_sets-e c).After-with_sets-c) c.with_sets-d.ensures refl refl in
    before_3 _ _ _ _ _ _ _ _ _ _ refl third c.with_sets-e.ensures refl refl

-- and the next two
six : (c : After-with_sets-g) → UpTo (goal.at.After-with_sets-g c).Start 6
    c.with_sets-g.result
six c =
    let fifth = before_4 _ _ _ _ _ _ _ _ _ _ refl (four (goal.at.After-with_sets-g c).After-with_sets-e) c.with_sets-f.ensures refl refl in
    before_5 _ _ _ _ _ _ _ _ _ _ refl fifth c.with_sets-g.ensures refl refl

pub returns-then-row-lt4 : goal.returns-then-row-lt4
returns-then-row-lt4 c = before_end _ _ _ _ 2 _ _ c.if-row-lt4.true (two (goal.at.returns-then-row-lt4 c).After-with_sets-c)

pub returns-then-row-lt16 : goal.returns-then-row-lt16
returns-then-row-lt16 c = before_end _ _ _ _ 4 _ _ c.if-row-lt16.true (four (goal.at.returns-then-row-lt16 c).After-with_sets-e)

pub returns-then-row-lt64 : goal.returns-then-row-lt64
returns-then-row-lt64 c = before_end _ _ _ _ 6 _ _ c.if-row-lt64.true (six (goal.at.returns-then-row-lt64 c).After-with_sets-g)

pub bounds-can-t-2 : goal.bounds-can-t-2
bounds-can-t-2 c = omega (arith, or_one c.args.x c.requires.1)

pub bounds-can-t-3 : goal.bounds-can-t-3
bounds-can-t-3 c = omega (arith, or_two c.args.x c.requires.1)

pub returns : goal.returns
returns c =
    let seventh = before_6 _ _ _ _ _ _ _ _ c.requires.1 (six (goal.at.returns c).After-with_sets-g) c.with_sets-h.ensures refl in
    before_7 _ _ _ _ _ _ _ _ c.requires.1 seventh c.with_sets.ensures refl
