-- What looking ahead comes to: rows with every pair leave all bits 1, rows that lost pairs and classes that gained some stay right, and where
-- the bits leave no choice, there is no entry. By the laws of what cannot be completed. Assumes nothing.
use Prim.Native.Nat.{ℕ, ◌+◌, ◌<◌}
use mathlib.Core.Bool.{Bool, true, false, false≢true}
use mathlib.Core.List.Memᴰ
use mathlib.Core.List.{List, []}
use mathlib.Core.Path.{◌≡◌, refl, sym, ap, ◌∙◌}
use native.Mathlib.Omega.{arith}
use lib.ListN.{set, replicate, length-replicate}
use lib.Seq.{get_or-set_same}
use Rattle.std.specs.declared.option.Option.{Option}
use Rattle.std.specs.declared.option.Option.TheVariants.{None, Some}
use Rattle.table.specs.Layout.{node_count}
use Rattle.nodes.specs.Code.Trail.{Trailed}
use Rattle.nodes.specs.Code.Formed.{Formed}
use Rattle.branches.specs.Code.Known.{left_count, right_count, right_labels, KnownOf, KeepsKnown}
use Rattle.branches.specs.Code.Ahead.{completes_from, MayPair, Completable}
use Rattle.branches.specs.Code.Walk.{all_entries, Standing, NoneOfKnown, Based, BasesAhead}
use Rattle.branches.proofs.SetLaws.{paired_first}
use Rattle.branches.proofs.KnownLaws.{known_kept, formed_kept, left_kept, right_kept, keeps_twice}
use Rattle.branches.proofs.CompleteLaws.{below_cannot}
use Rattle.branches.proofs.BasedLaws.{never_entries, based_entries}
use Rattle.ahead.specs.Code.Plan.{Sized, Ready, Plans}
use Rattle.ahead.specs.Code.Struck.{RowTo, RowsTo}
use Rattle.ahead.proofs.AheadLaws.{known_sized, whole_pairs, ready_again}
use Rattle.ahead.proofs.PlanLaws.{full_ready, full_completable}
use Rattle.ahead.proofs.StruckLaws.{rows_pairs, rows_end, rows_again, keeps_row, pairs_rows}
use Rattle.forcing.specs.Code.Forced.{Planned, Settles, Settling}
use Rattle.ahead.specs.Code.Whole.{WholeRows}
use Rattle.forcing.proofs.ForcedLaws.{based_kept, never_kept, none_left}

module _ {nodes arguments known : List ℕ} (k : KnownOf nodes arguments known) where
  -- classes that stand for no pair, with rows that are right
  none_based : {known' heads next : List ℕ} → KeepsKnown known known' → Formed nodes arguments known heads → Trailed (node_count nodes) heads next →
      Standing nodes arguments heads [] → MayPair nodes arguments known' [] → Based nodes arguments known' heads next
  none_based s f t g m =
      record {
        formed = formed_kept k s f;
        trailed = t;
        pairs = [];
        pairing = record { standing = g; partners = m };
        in_every = record { unifies = λ ds σ c x y n. absurd (Memᴰ.not-nil n) };
      }

  -- pairs that differ at once are struck out
  pub struck_based : {known' heads next : List ℕ} → KeepsKnown known known' → Formed nodes arguments known heads →
      Trailed (node_count nodes) heads next → Standing nodes arguments heads [] → RowsTo nodes arguments known' heads (left_count known) →
      Based nodes arguments known' heads next
  struck_based s f t g r =
      none_based s f t g (rows_pairs (let n = s.same 578 (omega arith) in rows_end r (omega (arith, n))) [] g)

  -- all but the rows is as before
  module _ {known' : List ℕ} (s : KeepsKnown known known') where
    -- so are the entries
    same_entries : all_entries nodes arguments known [] ≡ all_entries nodes arguments known' []
    same_entries =
        rw (right_kept k s, left_kept k s, s.same 579 (omega arith), s.same 580 (omega arith), s.same 581 (omega arith)) refl

    -- there may be a choice
    pub looks_based : {can heads next : List ℕ} → Based nodes arguments known' heads next → Completable known' can →
        BasesAhead nodes arguments known known' can heads next true
    looks_based b c =
        record { keeps = s; completable = λ z. c; based = λ z. b; none = λ z. absurd (false≢true (sym z)) }

    -- there is none
    looks_none : {can heads next : List ℕ} → all_entries nodes arguments known [] ≡ [] → BasesAhead nodes arguments known known' can heads next false
    looks_none e =
        record { keeps = s; completable = λ z. absurd (false≢true z); based = λ z. absurd (false≢true z); none = λ z. e }

    -- as none is admissible
    pub looks_never : {can heads next : List ℕ} → NoneOfKnown nodes arguments known → BasesAhead nodes arguments known known' can heads next false
    looks_never n = looks_none (never_entries k n)

    -- as none can be completed
    pub looks_cannot : {can heads next : List ℕ} → Based nodes arguments known' heads next → completes_from known' 0 0 ≡ false →
        BasesAhead nodes arguments known known' can heads next false
    looks_cannot b e =
        let x = known_kept k s in
        looks_none
        (same_entries ∙ sym (based_entries x b) ∙ below_cannot nodes arguments known' x 0 (omega arith) 0 [] b.pairs
        (replicate (right_count known') 1) (length-replicate {A = ℕ} (right_count known') 1) (paired_first (right_count known'))
        b.pairing.standing.inside b.pairing.partners e)

    -- what is looked at after that is looked at from the start
    pub looks_since : {known'' can heads next : List ℕ} {r : Bool} → BasesAhead nodes arguments known' known'' can heads next r →
        BasesAhead nodes arguments known known'' can heads next r
    looks_since l =
        record {
          keeps = keeps_twice s l.keeps;
          completable = l.completable;
          based = l.based;
          none = λ z. same_entries ∙ l.none z;
        }

  -- where every pair is left, every bit is 1
  pub looks_whole : {known' can heads next : List ℕ} → can ≡ replicate 32 18446744073709551615 → Formed nodes arguments known heads →
      Trailed (node_count nodes) heads next → Standing nodes arguments heads [] → WholeRows known known' →
      BasesAhead nodes arguments known known' can heads next true
  looks_whole {known'} {can} e f t g w =
      let x = known_kept k w.keeps in
      looks_based w.keeps (none_based w.keeps f t g (whole_pairs k w [])) (full_completable known' can e x.left_few x.right_few)

-- all bits may stay 1
pub plans_whole : {known can : List ℕ} → Sized known → can ≡ replicate 32 18446744073709551615 → Plans known can can true
plans_whole {known} {can} z e =
    record {
      ready = full_ready known can e z.left_few;
      completable = full_completable known can e z.left_few z.right_few;
      none = λ w. absurd (false≢true (sym w));
    }

-- the bits are filled
pub planned : {known can can' : List ℕ} {r : Bool} → Sized known → Plans known can can' r → Planned known can'
planned z p = record { sized = z; ready = p.ready; completable = p.completable }

-- they can be filled again, where all but the rows is as before
pub planning_again : {nodes arguments known known' can : List ℕ} → KnownOf nodes arguments known → KeepsKnown known known' → Planned known can →
    Sized known' × Ready known' can
planning_again {known = known} k s p =
    let n = s.same 578 (omega arith) in
    (known_sized (known_kept k s) (omega (arith, n, p.sized.some)), ready_again k s p.ready)

-- the same classes by other names
pub based_as : {nodes arguments known heads next heads' next' : List ℕ} → heads' ≡ heads → next' ≡ next → Based nodes arguments known heads next →
    Based nodes arguments known heads' next'
based_as e d b = rw (e, d) b

-- A row has lost pairs, or none.
module _ {nodes arguments known heads next : List ℕ} (k : KnownOf nodes arguments known) (b : Based nodes arguments known heads next) where
  -- the rows lack only pairs that never join
  pub based_rows : RowsTo nodes arguments known heads (left_count known)
  based_rows = pairs_rows k.sections b.pairs b.pairing.standing b.pairing.partners

  -- with another row they are right
  pub based_row : (i v : ℕ) → i < left_count known → RowTo nodes arguments known heads i (right_count known) v →
      Based nodes arguments (set known (600 + i) v) heads next
  based_row i v h r =
      let s = keeps_row known i v in
      let n = s.same 578 (omega arith) in
      based_kept k b s
      (rows_end
      (rows_again known i v (omega (arith, h, k.size, k.left_few)) k.right_few r k.left_few based_rows)
      (omega (arith, n)))

-- A row was put.
module _ {nodes arguments known : List ℕ} (k : KnownOf nodes arguments known) {known' : List ℕ} (s : KeepsKnown known known') where
  -- it has fewer pairs
  pub settles_fewer : {heads next : List ℕ} → Based nodes arguments known' heads next → Settles nodes arguments known known' heads next (Some 1)
  settles_fewer b = record { keeps = s; based = λ n z. b; same = λ z. absurd (cc); none = λ z. absurd (cc) }

  -- there is no choice
  pub settles_none : {heads next : List ℕ} → NoneOfKnown nodes arguments known' → Settles nodes arguments known known' heads next None
  settles_none n = record { keeps = s; based = λ x z. absurd (cc); same = λ z. absurd (cc); none = λ z. never_kept k s n }

-- A row of a left term that must be paired was put.
module _ {nodes arguments known heads next : List ℕ} (k : KnownOf nodes arguments known) (b : Based nodes arguments known heads next) (i v : ℕ)
    (h : i < left_count known) (r : RowTo nodes arguments known heads i (right_count known) v) where
  -- as many left terms are known
  still_left : i < left_count (set known (600 + i) v)
  still_left =
      let n = (keeps_row known i v).same 578 (omega arith) in
      omega (arith, n, h)

  -- it is empty
  pub settles_empty : {heads' next' : List ℕ} → right_labels (set known (600 + i) v) ≡ 0 → v ≡ 0 →
      Settles nodes arguments known (set known (600 + i) v) heads' next' None
  settles_empty z e =
      settles_none k (keeps_row known i v)
      (none_left (known_kept k (keeps_row known i v)) (based_row k b i v h r) z i still_left
      (get_or-set_same known (600 + i) v 0 (omega (arith, h, k.size, k.left_few)) ∙ e))

  -- its only partner can be looked for
  pub forcing_row : {heads' next' : List ℕ} → heads' ≡ heads → next' ≡ next → right_labels (set known (600 + i) v) ≡ 0 →
      KnownOf nodes arguments (set known (600 + i) v) × (Based nodes arguments (set known (600 + i) v) heads' next' ×
      ((right_labels (set known (600 + i) v) ≡ 0) × (i < left_count (set known (600 + i) v))))
  forcing_row e d z = (known_kept k (keeps_row known i v), (based_as e d (based_row k b i v h r), (z, still_left)))

-- Rounds have been made.
module _ {nodes arguments known₀ known can heads next : List ℕ} (k : KnownOf nodes arguments known₀)
    (s : Settling nodes arguments known₀ known can heads next) where
  -- what is known stays so but for the sets
  pub settling_known : KnownOf nodes arguments known
  settling_known = known_kept k s.keeps

  -- one more was made
  module _ {known' heads' next' : List ℕ} {r : Option ℕ} (t : Settles nodes arguments known known' heads' next' r) where
    kept_since : KeepsKnown known₀ known'
    kept_since = keeps_twice s.keeps t.keeps

    -- there is no choice
    pub settling_none : {can' : List ℕ} → r ≡ None → BasesAhead nodes arguments known₀ known' can' heads' next' false
    settling_none e = looks_never k kept_since (never_kept k s.keeps (t.none e))

    -- nothing was struck out
    pub settling_same : {n : ℕ} → r ≡ Some n → n ≡ 0 → BasesAhead nodes arguments known₀ known' can heads' next' true
    settling_same o z =
        let e : r ≡ Some 0 = o ∙ ap Some z in
        looks_based k kept_since (t.based 0 e) (rw (t.same e) s.planned.completable)

    -- the bits are filled again
    pub settling_plan : Sized known' × Ready known' can
    settling_plan = planning_again settling_known t.keeps s.planned

    module _ {can' : List ℕ} {q : Bool} {n : ℕ} (p : Plans known' can can' q) (o : r ≡ Some n) where
      -- no choice can be completed
      pub settling_cannot : q ≡ false → BasesAhead nodes arguments known₀ known' can' heads' next' false
      settling_cannot e = looks_cannot k kept_since (t.based n o) (p.none e)

      -- or there may be another round
      pub settling_again : Settling nodes arguments known₀ known' can' heads' next'
      settling_again = record { keeps = kept_since; based = t.based n o; planned = planned settling_plan.0 p }
