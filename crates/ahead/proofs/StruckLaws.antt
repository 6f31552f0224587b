-- Pairs that are struck out have no common value on top of whatever pairs the classes stand for: a substitution that unified them would
-- unify the pairs of the classes with them, which clash or lead in a circle. Assumes nothing.
use Prim.Native.Nat.{ℕ, ◌+◌, ◌*◌, ◌/◌, ◌%◌, ◌^◌, ◌≤◌, ◌<◌}
use mathlib.Core.Bool.{Bool, true, false, not, ◌&&◌, ◌||◌, false≢true}
use mathlib.Core.List.Memᴰ
use mathlib.Core.List.{List, ◌∷◌}
use mathlib.Core.Logic.{◌⊎◌, inl, inr}
use mathlib.Core.Path.{◌≡◌, refl, sym, ap, ◌∙◌}
use native.Mathlib.Decide.{ℕ_discrete}
use native.Mathlib.Nat.{pow-suc}
use native.Mathlib.Numerals.{add-one}
use native.Mathlib.Omega.{arith}
use lib.Dec.{eqb}
use lib.ListN.{length, set, length-set}
use borrow.Author.Tests.{eqb-true, not-false}
use lib.Seq.{get_or-set_same, get_or-set_other, set-get_or}
use Rattle.table.specs.Layout.{word, node_count}
use Rattle.table.proofs.BoolLaws.{and_true_left, and_true_right, or_false_left, or_false_right}
use Rattle.terms.specs.Substitution.{Substitution}
use Rattle.unification.specs.Node.{Node, nodes_from}
use Rattle.unification.specs.Unifier.{value, Unifies}
use Rattle.unification.specs.Closure.{Joined, given, back, on}
use Rattle.unification.specs.Outcome.{unified, clash}
use Rattle.unification.specs.Computed.Classes.{class_of}
use Rattle.unification.specs.Computed.Unifying.{outcome}
use Rattle.unification.specs.Code.Sections.{Sections, differ_test}
use Rattle.unification.proofs.JoinedLaws.{inside_more, more_joined, joined_equal}
use Rattle.unification.proofs.OutcomeLaws.{outcome_clash, outcome_unified}
use Rattle.unification.proofs.SectionLaws.{is_node, sections_well_formed}
use Rattle.nodes.specs.Code.Open.{IsClosed, closed_test, Counts}
use Rattle.nodes.specs.Code.Formed.{Formed, Stands}
use Rattle.nodes.proofs.OpenLaws.{closed_true}
use Rattle.unification.specs.declared.Unification.{Unification}
use Rattle.unification.specs.declared.Unification.TheVariants.{Unified, Clash, Occurs}
use Rattle.unification.specs.Answer.{outcome_of}
use Rattle.classes.specs.Code.Stands.{Extends}
use Rattle.classes.proofs.AtOnceLaws.{differ_clash}
use Rattle.classes.proofs.ClosedClashLaws.{SameTerm, closed_joined}
use Rattle.unification.specs.Closure as closure
use Rattle.branches.specs.Code.Known.{every_in, left_count, right_count, KeepsKnown}
use Rattle.branches.specs.Code.Ahead.{has, NeverOn, MayPair}
use Rattle.branches.specs.Code.Walk.{Standing}
use Rattle.branches.proofs.BitLaws.{has_false}
use Rattle.branches.proofs.SetLaws.{has_every, has_added, has_other, has_above}
use Rattle.ahead.specs.Code.Struck.{NeverJoins, RowTo, RowsTo}
use Rattle.ahead.proofs.PlanLaws.{sets_few, one_bit}

module _ (nodes arguments counts : List ℕ) (s : Sections nodes arguments) (heads : List ℕ) (f : Formed nodes arguments counts heads)
    (a b : ℕ) (p : a < node_count nodes) (q : b < node_count nodes) where
  -- The nodes.
  abbrev ns : List Node
  ns = nodes_from nodes arguments

  -- a pair that is not unified with what the classes stand for never joins
  never_by : ((ps : List (ℕ × ℕ)) → Stands nodes arguments heads ps → outcome ns ((a, b) ∷ ps) ≡ unified → ⊥) → NeverJoins nodes arguments heads a b
  never_by n ps g σ u =
      n g.pairs g.stands
      ((outcome_unified ns (sections_well_formed nodes arguments s) ((a, b) ∷ g.pairs)
      (inside_more ns a b g.pairs (is_node nodes arguments a p) (is_node nodes arguments b q) g.stands.inside)).1 (σ, all))
    where
      all : Unifies ns ((a, b) ∷ g.pairs) σ
      all i j (Memᴰ.head d) = u i j (Memᴰ.head d)
      all i j (Memᴰ.tail m) = (g.unifiers σ).1 (λ x y k. u x y (Memᴰ.tail k)) i j m

  -- one that clashes with it neither
  never_clash : ((ps : List (ℕ × ℕ)) → Stands nodes arguments heads ps → closure.Clash ns ((a, b) ∷ ps)) → NeverJoins nodes arguments heads a b
  never_clash n =
      never_by
      (λ ps d e.
      let k : outcome ns ((a, b) ∷ ps) ≡ clash = (outcome_clash ns (sections_well_formed nodes arguments s) ((a, b) ∷ ps)
      (inside_more ns a b ps (is_node nodes arguments a p) (is_node nodes arguments b q) d.inside)).1 (n ps d) in
      let w : ◌≡◌ {A = ℕ} 0 1 = cc in
      omega arith)

  -- applications of different symbols never join
  pub never_differ : (g h : ℕ) → g ≡ class_of heads a → h ≡ class_of heads b → (r : Bool) → r ≡ differ_test nodes g h → r ≡ true →
      NeverJoins nodes arguments heads a b
  never_differ g h x y r d t =
      never_clash (λ ps e. differ_clash nodes arguments counts heads s f a b p q (rw (x, y) at (sym d ∙ t)) ps e)

  -- nor do closed applications of different classes
  pub never_closed : Counts nodes arguments counts (node_count nodes) → (g h : ℕ) → g ≡ class_of heads a → h ≡ class_of heads b → (g ≡ h → ⊥) →
      (r : Bool) → r ≡ (closed_test nodes counts g && closed_test nodes counts h) → r ≡ true → NeverJoins nodes arguments heads a b
  never_closed k g h x y n r d t =
      never_clash (λ ps e. one ps e (closed_joined nodes arguments counts s k ((a, b) ∷ ps) (class_of heads a) (class_of heads b) first second
      (joined ps e)))
    where
      both : (closed_test nodes counts (class_of heads a) && closed_test nodes counts (class_of heads b)) ≡ true
      both = rw (x, y) at (sym d ∙ t)

      first : IsClosed nodes counts (class_of heads a)
      first = closed_true nodes counts (class_of heads a) (f.partition.below a p) (and_true_left _ (closed_test nodes counts (class_of heads b)) both)

      second : IsClosed nodes counts (class_of heads b)
      second =
          closed_true nodes counts (class_of heads b) (f.partition.below b q)
          (and_true_right (closed_test nodes counts (class_of heads a)) _ both)

      joined : (ps : List (ℕ × ℕ)) → Stands nodes arguments heads ps → Joined ns ((a, b) ∷ ps) (class_of heads a) (class_of heads b)
      joined ps e =
          on
          (back (more_joined ((a, b) ∷ ps) (λ z m. Memᴰ.tail m) (e.closure.joined a (is_node nodes arguments a p))))
          (on (given (Memᴰ.head refl)) (more_joined ((a, b) ∷ ps) (λ z m. Memᴰ.tail m)
          (e.closure.joined b (is_node nodes arguments b q))))

      one : (ps : List (ℕ × ℕ)) → Stands nodes arguments heads ps →
          closure.Clash ns ((a, b) ∷ ps) ⊎ SameTerm nodes arguments (class_of heads a) (class_of heads b) → closure.Clash ns ((a, b) ∷ ps)
      one ps e (inl c) = c
      one ps e (inr v) =
          absurd
          (n (x ∙ sym (f.partition.own a p) ∙ f.closed.shared (class_of heads a) (class_of heads b) first second v ∙ f.partition.own b q ∙ sym y))

  -- a pair by which the classes cannot be extended
  pub failed_never : (r : Unification) (next heads' next' : List ℕ) → (r ≡ Unified → ⊥) →
      Extends nodes arguments counts heads next a b r heads' next' → NeverJoins nodes arguments heads a b
  failed_never r next heads' next' n x = never_by (λ ps d u. n (is_unified r (x.answers ps d ∙ u)))
    where
      is_unified : (r : Unification) → outcome_of r ≡ unified → r ≡ Unified
      is_unified Unified e = refl
      is_unified Clash e = absurd (let w : ◌≡◌ {A = ℕ} 0 1 = cc in omega arith)
      is_unified Occurs e = absurd (let w : ◌≡◌ {A = ℕ} 0 1 = cc in omega arith)

module _ {nodes arguments known heads : List ℕ} {i : ℕ} where
  -- a row has one right term more
  pub row_with : {j row r : ℕ} → RowTo nodes arguments known heads i j row → j < 64 → r ≡ row + 1 * 2 ^ j % 18446744073709551616 →
      RowTo nodes arguments known heads i (j + 1) r
  row_with {j} {row} {r} t l s =
      record { within = omega (arith, e, t.within, twice); never = λ k h. go k h (ℕ_discrete k j) }
    where
      e : r ≡ row + 2 ^ j
      e = s ∙ ap (λ (x : ℕ). row + x) (one_bit j l)

      none : has row j ≡ false
      none = has_above j row j t.within (omega arith)

      twice : 2 ^ (j + 1) ≡ 2 ^ j * 2
      twice = ap (λ (y : ℕ). 2 ^ y) (add-one j) ∙ pow-suc 2 j

      go : (k : ℕ) → k < j + 1 → Dec (k ≡ j) → has r k ≡ false → NeverJoins nodes arguments heads (word known (584 + i)) (word known (592 + k))
      go k h (yes y) o = absurd (false≢true (sym o ∙ ap (λ (u : ℕ). has u k) e ∙ ap (has (row + 2 ^ j)) y ∙ has_added row j none))
      go k h (no y) o = t.never k (omega (arith, h, y)) (sym (has_other row j k none y) ∙ sym (ap (λ (u : ℕ). has u k) e) ∙ o)

  -- or lacks one that never joins
  pub row_without : {j row : ℕ} → RowTo nodes arguments known heads i j row →
      NeverJoins nodes arguments heads (word known (584 + i)) (word known (592 + j)) → RowTo nodes arguments known heads i (j + 1) row
  row_without {j} {row} t n =
      record { within = omega (arith, t.within, twice); never = λ k h. go k h (ℕ_discrete k j) }
    where
      twice : 2 ^ (j + 1) ≡ 2 ^ j * 2
      twice = ap (λ (y : ℕ). 2 ^ y) (add-one j) ∙ pow-suc 2 j

      go : (k : ℕ) → k < j + 1 → Dec (k ≡ j) → has row k ≡ false → NeverJoins nodes arguments heads (word known (584 + i)) (word known (592 + k))
      go k h (yes y) o = rw y n
      go k h (no y) o = t.never k (omega (arith, h, y)) o

-- a row with every right term lacks none
pub row_whole : {nodes arguments known heads : List ℕ} {i row : ℕ} → every_in known + 1 ≡ 2 ^ right_count known → row ≡ every_in known →
    RowTo nodes arguments known heads i (right_count known) row
row_whole {known = known} {i} {row} e d =
    record {
      within = omega (arith, e, d);
      never = λ j h o. absurd (false≢true (sym o ∙ ap (λ (x : ℕ). has x j) d ∙ has_every (right_count known) (every_in known) j e h));
    }

-- a row is put among what is known
module _ (known : List ℕ) (i v : ℕ) where
  -- all but the sets stays
  pub keeps_row : KeepsKnown known (set known (600 + i) v)
  keeps_row =
      record {
        size = length-set known (600 + i) v;
        same = λ k h. get_or-set_other known (600 + i) k v 0 (λ z. omega (arith, z, h));
      }

  module _ {nodes arguments heads : List ℕ} (few : 600 + i < length known) (right_few : right_count known ≤ 8)
      (row : RowTo nodes arguments known heads i (right_count known) v) where
    -- where the rows are right, they are with this one
    pub rows_put : {n l : ℕ} → l ≤ 8 → ((q : ℕ) → q < l → (q ≡ i → ⊥) → q < n) → RowsTo nodes arguments known heads n →
        RowsTo nodes arguments (set known (600 + i) v) heads l
    rows_put {n} {l} left_few f r = record { never = λ q j h g o. let c = same_count in put q j h (omega (arith, g, c)) o }
      where
        same_count : right_count (set known (600 + i) v) ≡ right_count known
        same_count = keeps_row.same 579 (omega arith)

        go : (q j : ℕ) → q < l → j < right_count known → has (word (set known (600 + i) v) (600 + q)) j ≡ false → Dec (q ≡ i) →
            NeverJoins nodes arguments heads (word known (584 + q)) (word known (592 + j))
        go q j h g o (yes e) =
            let w : word (set known (600 + i) v) (600 + q) ≡ v = ap (λ (x : ℕ). word (set known (600 + i) v) (600 + x)) e ∙ get_or-set_same known
            (600 + i) v 0 few in
            rw e (row.never j g (sym (ap (λ (x : ℕ). has x j) w) ∙ o))
        go q j h g o (no e) =
            let w : word (set known (600 + i) v) (600 + q) ≡ word known (600 + q) = get_or-set_other known (600 + i) (600 + q) v 0
            (λ z. e (omega (arith, z))) in
            r.never q j (f q h e) g (sym (ap (λ (x : ℕ). has x j) w) ∙ o)

        put : (q j : ℕ) → q < l → j < right_count known → has (word (set known (600 + i) v) (600 + q)) j ≡ false →
            NeverJoins nodes arguments heads (word (set known (600 + i) v) (584 + q)) (word (set known (600 + i) v) (592 + j))
        put q j h g o =
            rw (keeps_row.same (584 + q) (omega (arith, h, left_few)), keeps_row.same (592 + j) (omega (arith, g, right_few)))
            (go q j h g o (ℕ_discrete q i))

    -- one row more
    pub rows_more : i < 8 → RowsTo nodes arguments known heads i → RowsTo nodes arguments (set known (600 + i) v) heads (i + 1)
    rows_more h r = rows_put (omega (arith, h)) (λ q l e. omega (arith, l, e)) r

    -- the same number of rows
    pub rows_again : {n : ℕ} → n ≤ 8 → RowsTo nodes arguments known heads n → RowsTo nodes arguments (set known (600 + i) v) heads n
    rows_again h r = rows_put h (λ q l e. l) r

-- rows of all left terms
pub rows_end : {nodes arguments known heads : List ℕ} {i n : ℕ} → RowsTo nodes arguments known heads i → n ≤ i → RowsTo nodes arguments known heads n
rows_end r h = record { never = λ q j l. r.never q j (omega (arith, h, l)) }

-- rows that are right tell which pairs may be
pub rows_pairs : {nodes arguments known heads : List ℕ} → RowsTo nodes arguments known heads (left_count known) → (ps : List (ℕ × ℕ)) →
    Standing nodes arguments heads ps → MayPair nodes arguments known ps
rows_pairs r ps g = record { never = λ i j h l o. r.never i j h l o ps g }

-- a row that is put where it stands changes nothing
pub row_same : (known known₀ : List ℕ) (i may row v : ℕ) (fewer : Bool) → row ≡ word known (600 + i) → v ≡ may → (fewer ≡ false → known ≡ known₀) →
    (fewer || not (eqb may row)) ≡ false → set known (600 + i) v ≡ known₀
row_same known known₀ i may row v fewer e d f o =
    let x : may ≡ row = eqb-true may row (not-false (eqb may row) (or_false_right fewer (not (eqb may row)) o)) in
    ap (set known (600 + i)) (d ∙ x ∙ e) ∙ set-get_or known (600 + i) 0 ∙ f (or_false_left fewer (not (eqb may row)) o)

-- whatever unifies pairs that the classes stand for unifies others that they stand for
stands_same : (nodes arguments heads : List ℕ) → Sections nodes arguments → (ps qs : List (ℕ × ℕ)) → Stands nodes arguments heads ps →
    Stands nodes arguments heads qs → (σ : Substitution) → Unifies (nodes_from nodes arguments) ps σ → Unifies (nodes_from nodes arguments) qs σ
stands_same nodes arguments heads s ps qs d e σ u a b m =
    let l = e.inside a b m in
    equal a l.0 ∙ ap (value (nodes_from nodes arguments) σ) (e.closure.given a b m) ∙ sym (equal b l.1)
  where
    equal : (i : ℕ) → i < length (nodes_from nodes arguments) →
        value (nodes_from nodes arguments) σ i ≡ value (nodes_from nodes arguments) σ (class_of heads i)
    equal i h =
        joined_equal (nodes_from nodes arguments) (sections_well_formed nodes arguments s) ps d.inside σ u (d.closure.joined i h)

-- what never joins on top of some pairs that the classes stand for never does
pub never_any : (nodes arguments heads : List ℕ) → Sections nodes arguments → (qs : List (ℕ × ℕ)) → Standing nodes arguments heads qs → (a b : ℕ) →
    NeverOn (nodes_from nodes arguments) qs a b → NeverJoins nodes arguments heads a b
never_any nodes arguments heads s qs t a b n ps g σ u = n σ all
  where
    all : Unifies (nodes_from nodes arguments) ((a, b) ∷ qs) σ
    all i j (Memᴰ.head d) = u i j (Memᴰ.head d)
    all i j (Memᴰ.tail m) =
        (t.unifiers σ).0
        (stands_same nodes arguments heads s g.pairs t.pairs g.stands t.stands σ
        ((g.unifiers σ).1 (λ x y k. u x y (Memᴰ.tail k)))) i j m

-- the pairs that may be tell that rows are right
pub pairs_rows : {nodes arguments known heads : List ℕ} → Sections nodes arguments → (ps : List (ℕ × ℕ)) → Standing nodes arguments heads ps →
    MayPair nodes arguments known ps → RowsTo nodes arguments known heads (left_count known)
pairs_rows {nodes} {arguments} {known} {heads} s ps g m =
    record { never = λ q j h l o. never_any nodes arguments heads s ps g (word known (584 + q)) (word known (592 + j)) (m.never q j h l o) }

-- a pair by other names of its terms
pub never_named : {nodes arguments heads : List ℕ} {a b a' b' : ℕ} → a ≡ a' → b ≡ b' → NeverJoins nodes arguments heads a b →
    NeverJoins nodes arguments heads a' b'
never_named e d n = rw (sym e, sym d) n

-- a pair that is struck out already
pub struck_never : {nodes arguments known heads : List ℕ} {i j row : ℕ} → RowsTo nodes arguments known heads (left_count known) →
    i < left_count known → j < right_count known → row ≡ word known (600 + i) → row / 2 ^ j % 2 ≡ 0 →
    NeverJoins nodes arguments heads (word known (584 + i)) (word known (592 + j))
struck_never {i = i} {j} {row} r h g e z = r.never i j h g (ap (λ (v : ℕ). has v j) (sym e) ∙ has_false row j (λ o. omega (arith, z, o)))

-- a row by another name of the heads
pub row_as : {nodes arguments known heads heads₀ : List ℕ} {i n row : ℕ} → heads ≡ heads₀ → RowTo nodes arguments known heads i n row →
    RowTo nodes arguments known heads₀ i n row
row_as e t = rw (sym e) t

-- rows by another name of the heads
pub rows_as : {nodes arguments known heads heads₀ : List ℕ} {n : ℕ} → heads ≡ heads₀ → RowsTo nodes arguments known heads₀ n →
    RowsTo nodes arguments known heads n
rows_as e t = rw e t
