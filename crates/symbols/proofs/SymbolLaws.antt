-- Two applications of different symbols are never equal, nor are two of one symbol with such arguments at one place: a substitution
-- that made them equal would unify them as a pair, and the closure of that pair has a clash. Assumes nothing.
use Prim.Native.Nat.{ℕ, ◌<◌}
use mathlib.Core.Bool.{Bool, true, false, not, ◌&&◌, ◌||◌}
use mathlib.Core.List.Memᴰ
use mathlib.Core.List.{List, [], ◌∷◌}
use mathlib.Core.Path.{◌≡◌, refl, sym, ap, ◌∙◌}
use native.Mathlib.Omega.{arith}
use borrow.Author.Tests.{eqb-false, not-true}
use lib.Dec.{eqb}
use Rattle.table.specs.Layout.{kind_of, name_of, count_of, node_count, argument_of}
use Rattle.table.proofs.BoolLaws.{and_true_left, and_true_right, or_false_left, or_false_right}
use Rattle.terms.specs.Substitution.{Substitution}
use Rattle.unification.specs.Node.{Node, nodes_from}
use Rattle.unification.specs.Unifier.{value, Unifies}
use Rattle.unification.specs.Closure.{Joined, given, arguments, Clash, different}
use Rattle.unification.specs.Code.Sections.{Sections, symbol_test, differ_test}
use Rattle.unification.proofs.JoinedLaws.{inside_none, inside_more, clash_none}
use Rattle.unification.proofs.SectionLaws.{is_node, application_from, run_long, symbols_differ, counted_application, pair_place, sections_well_formed}
use Rattle.symbols.specs.Code.Symbols.{NeverEqual}

module _ (nodes args : List ℕ) (s : Sections nodes args) (a b : ℕ) (p : a < node_count nodes) (q : b < node_count nodes) where
  -- The nodes.
  abbrev ns : List Node
  ns = nodes_from nodes args

  -- what makes two nodes equal unifies them as a pair
  unifies_one : (σ : Substitution) → value ns σ a ≡ value ns σ b → Unifies ns ((a, b) ∷ []) σ
  unifies_one σ e x y (Memᴰ.head d) =
      ap (λ (z : ℕ × ℕ). value ns σ z.0) d ∙ e ∙ sym (ap (λ (z : ℕ × ℕ). value ns σ z.1) d)
  unifies_one σ e x y (Memᴰ.tail m) = absurd (Memᴰ.not-nil m)

  -- a pair that clashes is never equal
  never_clash : Clash ns ((a, b) ∷ []) → NeverEqual nodes args a b
  never_clash k =
      record {
        never = λ σ e.
            clash_none ns (sections_well_formed nodes args s) ((a, b) ∷ [])
            (inside_more ns a b [] (is_node nodes args a p) (is_node nodes args b q) (inside_none ns)) σ (unifies_one σ e) k;
      }

  -- nor is one that joins applications of different symbols
  never_joined : (g h : ℕ) → g < node_count nodes → h < node_count nodes → differ_test nodes g h ≡ true → Joined ns ((a, b) ∷ []) g h →
      NeverEqual nodes args a b
  never_joined g h x y d j =
      never_clash
      (different j
      (application_from nodes args g x (eqb-false (kind_of nodes g) 0 (not-true _ (and_true_left _ (not (eqb (kind_of nodes h) 0)) kinds))))
      (application_from nodes args h y (eqb-false (kind_of nodes h) 0 (not-true _ (and_true_right (not (eqb (kind_of nodes g) 0)) _ kinds))))
      (symbols_differ nodes args s g h x y (not-true _ (and_true_right (not (eqb (kind_of nodes g) 0) && not (eqb (kind_of nodes h) 0)) _ d))))
    where
      kinds : (not (eqb (kind_of nodes g) 0) && not (eqb (kind_of nodes h) 0)) ≡ true
      kinds = and_true_left _ (not (symbol_test nodes g h)) d

  -- two applications of different symbols are never equal
  pub never_differ : differ_test nodes a b ≡ true → NeverEqual nodes args a b
  never_differ d = never_joined a b p q d (given (Memᴰ.head refl))

  -- nor are two nodes whose tests tell that they are such applications
  pub never_symbols : (o u v : Bool) → o ≡ symbol_test nodes a b → o ≡ false → u ≡ eqb (kind_of nodes a) 0 → v ≡ eqb (kind_of nodes b) 0 →
      (u || v) ≡ false → NeverEqual nodes args a b
  never_symbols o u v x y z w r =
      never_differ
      (all (eqb (kind_of nodes a) 0) (eqb (kind_of nodes b) 0) (symbol_test nodes a b) (sym z ∙ or_false_left u v r) (sym w ∙ or_false_right u v r)
      (sym x ∙ y))
    where
      all : (c d e : Bool) → c ≡ false → d ≡ false → e ≡ false → (not c && not d && not e) ≡ true
      all c d e h k l = rw (h, k, l) refl

  -- nor are two nodes of one symbol with such arguments at one place
  pub never_arguments : name_of nodes a ≡ name_of nodes b → count_of nodes a ≡ count_of nodes b → (j : ℕ) → j < count_of nodes a → (x y : ℕ) →
      x ≡ argument_of nodes args a j → y ≡ argument_of nodes args b j → (r : Bool) → r ≡ differ_test nodes x y → r ≡ true → NeverEqual nodes args a b
  never_arguments n k j h x y d e r t o =
      never_joined x y (small a p x d h) (small b q y e h') (sym t ∙ o)
      (arguments (application_from nodes args a p (counted_application nodes args s a j p h))
      (application_from nodes args b q (counted_application nodes args s b j q h'))
      (n, run_long nodes args s a p ∙ k ∙ sym (run_long nodes args s b q)) (given (Memᴰ.head refl))
      ((pair_place nodes args s a b p q x y).1 (j, h, h', d, e)))
    where
      h' : j < count_of nodes b
      h' = omega (arith, h, k)

      small : (i : ℕ) → i < node_count nodes → (z : ℕ) → z ≡ argument_of nodes args i j → j < count_of nodes i → z < node_count nodes
      small i l z g m =
          let w = s.smaller i j l m in
          omega (arith, w, g, l)
