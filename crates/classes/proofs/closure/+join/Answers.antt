use Prim.Native.Nat.{ℕ, ◌<◌}
use mathlib.Core.Bool.{true, ◌&&◌}
use mathlib.Core.Path.{◌≡◌, refl, ap, ◌∙◌}
use native.Mathlib.Omega.{arith}
use lib.Dec.{eqb}
use Rattle.table.specs.Layout.{kind_of, count_of, node_count, argument_of}
use Rattle.unification.specs.Computed.Classes.{class_of}
use Rattle.unification.specs.Code.Sections.{symbol_test}
use Rattle.nodes.specs.Code.Open.{closed_test}
use Rattle.classes.specs.Code.Closure.{Joinable, Joins}
use Rattle.classes.proofs.JoinLaws.{variable_tested, kind_of_lem, applied_tested, clash_tested, alike_tested, tested_by, argument_of_lem, arguments_none, arguments_next, Meeting, OneSymbolHeads, join_already, joined_to, joins_long, joinable_left, roots_left, joins_left, meeting_inside, meeting_heads, meeting_trailed, join_clash, join_variable, one_count, applications_united, joinable_on, join_applications, join_stopped}
use Rattle.classes.proofs.closure.+join.Goals as goal
use Rattle.classes.proofs.closure.+join.Goals.{then-not-join_at_once+else-not-join, else-not-join_at_once, After-argument-y, After-both_closed, After-is_variable-2, At-loop-k, Else-g-h, Else-one_symbol-both_closed, Joined-not-join_at_once}

-- where the heads differ, where both were tested for a variable, where both are applications that were tested, and where these are alike
abbrev Apart : ℕ → Type 0
Apart t = Else-g-h t

abbrev Kinds : ℕ → Type 0
Kinds t = After-is_variable-2 t

abbrev Tested : ℕ → Type 0
Tested t = After-both_closed t

abbrev Alike : ℕ → Type 0
Alike t = Else-one_symbol-both_closed t

-- where the loop begins, where a pair of arguments was taken, and where it has been joined
abbrev Turning : ℕ → Type 0
Turning t = At-loop-k t

abbrev Taken : ℕ → Type 0
Taken t = After-argument-y t

abbrev Turned : ℕ → Type 0
Turned t = Joined-not-join_at_once t

-- the two nodes are of different classes
meets : (t : ℕ) (c : Apart t) → Meeting c.args.nodes.now c.args.arguments.now c.args.counts.now c.args.heads.now c.args.next.now c.args.a.0 c.args.b.0
meets t c =
    record { joinable = c.requires.joinable; first = c.requires.a_bound.0; second = c.requires.a_bound.1; apart = c.if-g-h.false }

-- the heads of the two nodes
abbrev first_head : (t : ℕ) → Apart t → ℕ
first_head t c = class_of c.args.heads.now c.args.a.0

abbrev second_head : (t : ℕ) → Apart t → ℕ
second_head t c = class_of c.args.heads.now c.args.b.0

-- the first head's test for a variable
first_kind : (t : ℕ) (c : Kinds t) → c.is_variable.result ≡ eqb (kind_of c.args.nodes.now
    (first_head t (goal.at.After-is_variable-2 t c).Else-g-h)) 0
first_kind t c =
    kind_of_lem c.args.nodes.now c.is_variable.ensures c.node-first.ensures.0

-- the second head's
second-kind : (t : ℕ) (c : Kinds t) → c.is_variable-2.result ≡ eqb (kind_of c.args.nodes.now
    (second_head t (goal.at.After-is_variable-2 t c).Else-g-h)) 0
second-kind t c =
    kind_of_lem c.args.nodes.now c.is_variable-2.ensures c.node-second.ensures.0

-- both heads are applications
applied : (t : ℕ) (c : Tested t) →
    (kind_of c.args.nodes.now (first_head t (goal.at.After-both_closed t c).Else-g-h) ≡ 0 → ⊥) ×
    (kind_of c.args.nodes.now (second_head t (goal.at.After-both_closed t c).Else-g-h) ≡ 0 → ⊥)
applied t c =
    let here = goal.at.After-both_closed t c in
    applied_tested c.args.nodes.now _ _ c.is_variable.result
    c.is_variable-2.result (first_kind t here.After-is_variable-2) (second-kind t here.After-is_variable-2)
    c.if-is_variable.false

-- their test for one symbol
symbols : (t : ℕ) (c : Tested t) →
    c.one_symbol.result ≡ symbol_test c.args.nodes.now (first_head t (goal.at.After-both_closed t c).Else-g-h)
    (second_head t (goal.at.After-both_closed t c).Else-g-h)
symbols t c =
    let ns = c.args.nodes.now in
    tested_by (symbol_test ns) _ _ _ _ _ c.node-first.ensures.0 c.node-second.ensures.0 c.one_symbol.ensures

-- their test for closed applications
closed : (t : ℕ) (c : Tested t) →
    c.both_closed.result ≡ (closed_test c.args.nodes.now c.args.counts.now (first_head t
    (goal.at.After-both_closed t c).Else-g-h) && closed_test c.args.nodes.now c.args.counts.now
    (second_head t (goal.at.After-both_closed t c).Else-g-h))
closed t c =
    let ns = c.args.nodes.now in
    let ks = c.args.counts.now in
    tested_by (λ i j. closed_test ns ks i && closed_test ns ks j) _ _ _ _ _ c.node-first.ensures.0
    c.node-second.ensures.0 c.both_closed.ensures

-- they have one symbol and are not both closed
alike : (t : ℕ) (c : Alike t) → OneSymbolHeads c.args.nodes.now c.args.arguments.now c.args.counts.now c.args.heads.now c.args.a.0 c.args.b.0
alike t c =
    let here = goal.at.Else-one_symbol-both_closed t c in
    let m = meets t here.Else-g-h in
    let r = alike_tested c.args.nodes.now c.args.counts.now _ _ (meeting_inside m).0 (meeting_inside m).1 c.one_symbol.result c.both_closed.result
    (symbols t here.After-both_closed) (closed t here.After-both_closed) c.if-one_symbol-both_closed.false in
    let k = applied t here.After-both_closed in
    record { first_applied = k.0; second_applied = k.1; one_symbol = r.0; not_both = r.1 }

-- whenever the loop begins again, joining can go on
ready : (t : ℕ) (c : Turning t) → Joinable c.args.nodes.now c.args.arguments.now c.args.counts.now c.loop-k.heads c.loop-k.next
ready t c =
    let here = goal.at.At-loop-k t c in
    let m = meets t here.Else-g-h in
    let a = alike t here.Else-one_symbol-both_closed in
    joinable_on m a _ _ (applications_united m a _ _ c.unite-2.ensures) c.loop-k.k _ _ c.loop-k.invariant

-- the first head has so many arguments
first-count : (t : ℕ) (c : Turning t) → c.arity-count.result ≡ count_of c.args.nodes.now (first_head t (goal.at.At-loop-k t c).Else-g-h)
first-count t c = c.arity-count.ensures.0 ∙ ap (count_of c.args.nodes.now) c.node-first.ensures.0

-- the first head's argument
first-argument : (t : ℕ) (c : Taken t) → c.argument-x.result.0
    ≡ argument_of c.args.nodes.now c.args.arguments.now (first_head t (goal.at.After-argument-y t c).Else-g-h) c.loop-k.k
first-argument t c =
    argument_of_lem c.args.nodes.now c.args.arguments.now c.loop-k.k c.argument-x.ensures.0 c.node-first.ensures.0

-- the second head's
second-argument : (t : ℕ) (c : Taken t) →
    c.argument-y.result.0 ≡ argument_of c.args.nodes.now c.args.arguments.now (second_head t (goal.at.After-argument-y t c).Else-g-h) c.loop-k.k
second-argument t c =
    argument_of_lem c.args.nodes.now c.args.arguments.now c.loop-k.k c.argument-y.ensures.0 c.node-second.ensures.0

-- both are nodes
arguments_within : (t : ℕ) (c : Taken t) → (c.argument-x.result.0 < node_count c.args.nodes.now) ×
    (c.argument-y.result.0 < node_count c.args.nodes.now)
arguments_within t c =
    let m = meets t (goal.at.After-argument-y t c).Else-g-h in
    let p = (meeting_inside m).0 in
    let q = (meeting_inside m).1 in
    let d = c.node-first.ensures.0 in
    let e = c.node-second.ensures.0 in
    let x = c.argument-x.ensures.1 in
    let y = c.argument-y.ensures.1 in
    (omega (arith, p, d, x), omega (arith, q, e, y))

pub bounds-heads-i : goal.bounds-heads-i
bounds-heads-i t c =
    rw c.requires.joinable.partition.size c.requires.a_bound.0

pub bounds-heads-j : goal.bounds-heads-j
bounds-heads-j t c =
    rw c.requires.joinable.partition.size c.requires.a_bound.1

pub returns-then-g-h : goal.returns-then-g-h
returns-then-g-h t c =
    join_already c.args.a.0 c.args.b.0 c.requires.joinable c.requires.a_bound.0 c.requires.a_bound.1 c.if-g-h.true

pub is_variable-requires : goal.is_variable-requires
is_variable-requires t c =
    let p = (meeting_inside (meets t (goal.at.is_variable-requires t c).Else-g-h)).0 in
    let e = c.node-first.ensures.0 in
    omega (arith, p, e)

pub is_variable-requires-2 : goal.is_variable-requires-2
is_variable-requires-2 t c =
    let p = (meeting_inside (meets t (goal.at.is_variable-requires-2 t c).Else-g-h)).1 in
    let e = c.node-second.ensures.0 in
    omega (arith, p, e)

pub unite-requires : goal.unite-requires
unite-requires t c =
    let m = meets t (goal.at.unite-requires t c).Else-g-h in record {
      heads_len = (m.joinable.partition.size, m.joinable.counts_right.enough);
      two_heads = (meeting_heads m, meeting_trailed m);
    }

pub returns-then-is_variable : goal.returns-then-is_variable
returns-then-is_variable t c =
    let here = goal.at.returns-then-is_variable t c in
    let m = meets t here.Else-g-h in
    join_variable m _ _ c.unite.ensures
    (variable_tested c.args.nodes.now _
    _ c.is_variable.result c.is_variable-2.result (first_kind t here.After-is_variable-2) (second-kind t here.After-is_variable-2)
    c.if-is_variable.true)

pub one_symbol-requires : goal.one_symbol-requires
one_symbol-requires t c =
    let m = meets t (goal.at.one_symbol-requires t c).Else-g-h in
    let p = (meeting_inside m).0 in
    let q = (meeting_inside m).1 in
    let d = c.node-first.ensures.0 in
    let e = c.node-second.ensures.0 in
    (omega (arith, p, d), omega (arith, q, e))

pub both_closed-requires : goal.both_closed-requires
both_closed-requires t c =
    let m = meets t (goal.at.both_closed-requires t c).Else-g-h in
    let p = (meeting_inside m).0 in
    let q = (meeting_inside m).1 in
    let d = c.node-first.ensures.0 in
    let e = c.node-second.ensures.0 in
    (omega (arith, p, d), omega (arith, q, e), m.joinable.counts_right.enough)

pub returns-then-one_symbol-both_closed : goal.returns-then-one_symbol-both_closed
returns-then-one_symbol-both_closed t c =
    let here = goal.at.returns-then-one_symbol-both_closed t c in
    let m = meets t here.Else-g-h in
    join_clash m (applied t here.After-both_closed)
    (clash_tested c.args.nodes.now c.args.counts.now _ _ (meeting_inside m).0 (meeting_inside m).1 c.one_symbol.result c.both_closed.result
    (symbols t here.After-both_closed) (closed t here.After-both_closed) c.if-one_symbol-both_closed.true)

pub unite-requires-2 : goal.unite-requires-2
unite-requires-2 t c =
    let m = meets t (goal.at.unite-requires-2 t c).Else-g-h in record {
      heads_len = (m.joinable.partition.size, m.joinable.counts_right.enough);
      two_heads = (meeting_heads m, meeting_trailed m);
    }

pub arity-count-requires : goal.arity-count-requires
arity-count-requires t c =
    let m = meets t (goal.at.arity-count-requires t c).Else-g-h in
    let p = (meeting_inside m).0 in
    let e = c.node-first.ensures.0 in record {
      sections = m.joinable.sections;
      node_bound = omega (arith, e, p);
    }

pub loop-k-init : goal.loop-k-init
loop-k-init t c =
    let here = goal.at.loop-k-init t c in
    let m = meets t here.Else-g-h in
    let u = applications_united m (alike t here.Else-one_symbol-both_closed) _ _ c.unite-2.ensures in
    arguments_none _ _ _ _ _ _ _ _ _ _ _ _ u

pub argument-x-requires : goal.argument-x-requires
argument-x-requires t c =
    let m = meets t (goal.at.argument-x-requires t c).Else-g-h in
    let e = c.node-first.ensures.0 in
    let p = (meeting_inside m).0 in
    let n = c.arity-count.ensures.0 in record {
      sections = m.joinable.sections;
      node_bound = (omega (arith, e, p), omega (arith, n, c.loop-k-test.true));
    }

pub argument-y-requires : goal.argument-y-requires
argument-y-requires t c =
    let here = goal.at.argument-y-requires t c in
    let m = meets t here.Else-g-h in
    let l = first-count t here.At-loop-k in
    let e = c.node-second.ensures.0 in
    let p = (meeting_inside m).1 in
    let k = ap (count_of c.args.nodes.now) e in
    let n = one_count m (alike t here.Else-one_symbol-both_closed) in record {
      sections = m.joinable.sections;
      node_bound = (omega (arith, e, p), omega (arith, l, k, n, c.loop-k-test.true));
    }

pub join_at_once-requires : goal.join_at_once-requires
join_at_once-requires t c =
    let here = goal.at.join_at_once-requires t c in
    record {
      joinable = ready t here.At-loop-k;
      a_bound = arguments_within t here.After-argument-y;
    }

pub join-requires : goal.join-requires
join-requires t c =
    let here = goal.at.join-requires t c in
    let a = c.join_at_once.ensures in
    let o = c.if-not-join_at_once.true in
    let u = applications_united (meets t here.Else-g-h) (alike t here.Else-one_symbol-both_closed) _ _ c.unite-2.ensures in
    let f = c.loop-k.invariant.fewer in
    let r = u.fewer in
    let n = roots_left a o in (
      omega (arith, f, r, n, c.decreases),
      (joinable_left a o (ready t here.At-loop-k), arguments_within t here.After-argument-y),
    )

pub returns-then-not-join : goal.returns-then-not-join
returns-then-not-join t c =
    let here = goal.at.returns-then-not-join t c in
    let m = meets t here.Else-g-h in
    let l = c.loop-k in
    let a = alike t here.Else-one_symbol-both_closed in
    let u = applications_united m a _ _ c.unite-2.ensures in
    let e = first-count t here.At-loop-k in
    let w = joins_left c.join_at_once.ensures c.if-not-join_at_once.true c.join.ensures in
    join_stopped m a _ _ u l.k _ _ l.invariant (omega (
      arith,
      e,
      c.loop-k-test.true,
    )) _ _ _ _ _ (first-argument t here.After-argument-y) (second-argument t here.After-argument-y) c.if-not-join.true w

pub shape_of-heads-then-not-join : goal.shape_of-heads-then-not-join
shape_of-heads-then-not-join t c = (joins_long c.requires.joinable (returns-then-not-join t c)).0

pub shape_of-next-then-not-join : goal.shape_of-next-then-not-join
shape_of-next-then-not-join t c = (joins_long c.requires.joinable (returns-then-not-join t c)).1

-- in either arm the pair of arguments is joined
pair_joined : (t : ℕ) (c : Turned t) → Joins
    c.args.nodes.now c.args.arguments.now c.args.counts.now c.loop-k.heads c.loop-k.next c.argument-x.result.0 c.argument-y.result.0 true
    c.if-not-join_at_once.heads c.if-not-join_at_once.next
pair_joined t c =
    let a = c.join_at_once.ensures in
    elim c.if-not-join_at_once.branch [
      | then-not-join_at_once+else-not-join w ↦ joined_to (joins_left a w.if-not-join_at_once.true w.join.ensures) w.if-not-join.false w.heads-is
          w.next-is
      | else-not-join_at_once w ↦ joined_to (a.joins w.if-not-join_at_once.false) refl w.heads-is w.next-is
    ]

pub loop-k-preserved : goal.loop-k-preserved
loop-k-preserved t c =
    let here = goal.at.loop-k-preserved t c in
    let l = c.loop-k in
    arguments_next _ _ _ _ _ _ _ l.k _ _ l.invariant _ _ true _ _ (first-argument t here.After-argument-y)
    (second-argument t here.After-argument-y) (pair_joined t c) refl

pub returns : goal.returns
returns t c =
    let here = goal.at.returns t c in
    let m = meets t here.Else-g-h in
    let s = alike t here.Else-one_symbol-both_closed in
    let l = c.loop-k in
    let e = first-count t here.At-loop-k in
    let k = l.auto.k-end in
    join_applications m s _ _ (applications_united m s _ _ c.unite-2.ensures) l.k _ _ l.invariant (omega (arith, e, k, c.loop-k-test.false))
