-- Being alike, and the key of a node: what the loops that compare two nodes and make a key show. Nodes that are alike have one key,
-- and both depend only on the names of arguments. Assumes nothing.
use Prim.Native.Nat.{ℕ, zero, suc, ◌+◌, ◌<◌, ◌≤◌}
use mathlib.Core.Bool.{Bool, true, false, false≢true}
use mathlib.Core.List.{List}
use mathlib.Core.Path.{◌≡◌, refl, sym, ap, ◌∙◌}
use native.Mathlib.Numerals.{add-one}
use native.Mathlib.Omega.{arith}
use borrow.Author.Count.{below_more}
use Rattle.table.specs.Layout.{count_of, argument_of}
use Rattle.unification.specs.Code.Sections.{symbol_test}
use Rattle.unification.proofs.SectionLaws.{symbol_test_lem}
use Rattle.nodes.specs.Code.Named.{value_name, Alike}
use Rattle.values.specs.Code.Naming.{symbol_key, longer_key, key_up_to, key_of, AlikeBy, ComparedBy, Compared}

-- Being alike is an equivalence, and gives one key.
module _ {nodes arguments heads names : List ℕ} where
  -- a node is alike itself
  pub alike_same : (g : ℕ) → Alike nodes arguments heads names g g
  alike_same g = record { name = refl; count = refl; per_argument = λ j q. refl }

  -- turned round
  pub alike_back : {g h : ℕ} → Alike nodes arguments heads names g h → Alike nodes arguments heads names h g
  alike_back {g} {h} s =
      record {
        name = sym s.name;
        count = sym s.count;
        per_argument = λ j q. sym (s.per_argument j (let e = s.count in omega (arith, e, q)));
      }

  -- and on from one to the next
  pub alike_on : {g h k : ℕ} → Alike nodes arguments heads names g h → Alike nodes arguments heads names h k → Alike nodes arguments heads names g k
  alike_on {g} {h} {k} s t =
      record {
        name = s.name ∙ t.name;
        count = s.count ∙ t.count;
        per_argument = λ j q. s.per_argument j q ∙ t.per_argument j (let e = s.count in omega (arith, e, q));
      }

  key_alike_up_to : {g h : ℕ} → Alike nodes arguments heads names g h → (j : ℕ) → j ≤ count_of nodes g →
      key_up_to nodes arguments heads names g j ≡ key_up_to nodes arguments heads names h j
  unfolding key_up_to
  key_alike_up_to {g} {h} s zero l = rw (s.name, s.count)
  key_alike_up_to {g} {h} s (suc j) l = rw (key_alike_up_to s j (omega arith), s.per_argument j (omega arith))

  -- nodes that are alike have one key
  pub key_alike : {g h : ℕ} → Alike nodes arguments heads names g h → key_of nodes arguments heads names g ≡ key_of nodes arguments heads names h
  unfolding key_of
  key_alike {g} {h} s =
      key_alike_up_to s (count_of nodes g) (omega arith) ∙ ap (key_up_to nodes arguments heads names h) s.count

-- Two lists of names agree on the arguments of node h.
abbrev pub NamesKept : List ℕ → List ℕ → List ℕ → List ℕ → List ℕ → ℕ → Type 0
NamesKept nodes arguments heads names news h =
    (j : ℕ) → j < count_of nodes h → value_name heads news (argument_of nodes arguments h j)
    ≡ value_name heads names (argument_of nodes arguments h j)

-- The key depends on the names of arguments.
module _ (nodes arguments heads names heads' names' : List ℕ) (h : ℕ)
    (s : (j : ℕ) → j < count_of nodes h →
    value_name heads' names' (argument_of nodes arguments h j) ≡ value_name heads names (argument_of nodes arguments h j)) where
  key_same_up_to : (j : ℕ) → j ≤ count_of nodes h → key_up_to nodes arguments heads' names' h j ≡ key_up_to nodes arguments heads names h j
  unfolding key_up_to
  key_same_up_to zero l = refl
  key_same_up_to (suc j) l = rw (key_same_up_to j (omega arith), s j (omega arith))

  -- so it is the same by other heads and names
  pub key_same : key_of nodes arguments heads' names' h ≡ key_of nodes arguments heads names h
  unfolding key_of
  key_same = key_same_up_to (count_of nodes h) (omega arith)

-- and kept where names are
pub key_kept : (nodes arguments heads names news : List ℕ) (h : ℕ) → NamesKept nodes arguments heads names news h →
    key_of nodes arguments heads news h ≡ key_of nodes arguments heads names h
key_kept nodes arguments heads names news h s = key_same nodes arguments heads names heads news h s

-- what is alike stays so
pub alike_kept : (nodes arguments heads names news : List ℕ) {g h : ℕ} → NamesKept nodes arguments heads names news g →
    NamesKept nodes arguments heads names news h → Alike nodes arguments heads names g h → Alike nodes arguments heads news g h
alike_kept nodes arguments heads names news s t a =
    record {
      name = a.name;
      count = a.count;
      per_argument = λ j q. s j q ∙ a.per_argument j q ∙ sym (t j (let e = a.count in omega (arith, e, q)));
    }

-- and was so
pub alike_was : (nodes arguments heads names news : List ℕ) {g h : ℕ} → NamesKept nodes arguments heads names news g →
    NamesKept nodes arguments heads names news h → Alike nodes arguments heads news g h → Alike nodes arguments heads names g h
alike_was nodes arguments heads names news s t = alike_kept nodes arguments heads news names (λ j q. sym (s j q)) (λ j q. sym (t j q))

-- The loop that makes a key.
module _ (nodes arguments heads names : List ℕ) (h : ℕ) where
  -- the symbol
  pub key_start : (x : ℕ) → x ≡ symbol_key nodes h → x ≡ key_up_to nodes arguments heads names h 0
  unfolding key_up_to
  key_start x e = e

  -- one argument more
  pub key_next : (x j v y : ℕ) → x ≡ key_up_to nodes arguments heads names h j → v ≡ value_name heads names (argument_of nodes arguments h j) →
      y ≡ longer_key x v → y ≡ key_up_to nodes arguments heads names h (j + 1)
  unfolding key_up_to
  key_next x j v y e d f = rw (add-one j, f, e, d)

  -- all of them
  pub key_end : (x j n : ℕ) → x ≡ key_up_to nodes arguments heads names h j → n ≡ count_of nodes h → j ≤ n → n ≤ j →
      x ≡ key_of nodes arguments heads names h
  unfolding key_of
  key_end x j n e d l m = e ∙ ap (key_up_to nodes arguments heads names h) (let f : j ≡ n = omega arith in f ∙ d)

-- The loop that compares nodes g and h, by the values of their arguments.
module _ (nodes arguments : List ℕ) (value : ℕ → ℕ) (g h : ℕ) where
  module _ (r : Bool) (e : r ≡ symbol_test nodes g h) where
    -- the symbols are different
    pub compare_symbols : r ≡ false → ComparedBy nodes arguments value g h false
    compare_symbols f =
        record {
          alike = λ z. absurd (false≢true z);
          different = λ z a. false≢true (sym f ∙ e ∙ (symbol_test_lem nodes g h).1 (a.name, a.count));
        }

    -- they are one
    pub compare_start : r ≡ true → AlikeBy nodes arguments value g h 0
    compare_start f =
        let t = (symbol_test_lem nodes g h).0 (sym e ∙ f) in
        record {
          name = t.0;
          count = t.1;
          per_argument = λ j q. absurd (omega arith);
        }

  module _ (j n : ℕ) (l : n ≡ count_of nodes g) (s : AlikeBy nodes arguments value g h j) where
    module _ (x y : ℕ) (d : x ≡ value (argument_of nodes arguments g j)) (e : y ≡ value (argument_of nodes arguments h j)) where
      -- one argument more has the same value
      pub compare_next : x ≡ y → AlikeBy nodes arguments value g h (j + 1)
      compare_next f =
          record {
            name = s.name;
            count = s.count;
            per_argument =
                below_more (λ i. value (argument_of nodes arguments g i) ≡ value (argument_of nodes arguments h i)) j s.per_argument (sym d ∙ f ∙ e);
          }

      -- it has another
      pub compare_different : j < n → (x ≡ y → ⊥) → ComparedBy nodes arguments value g h false
      compare_different m f =
          record {
            alike = λ z. absurd (false≢true z);
            different = λ z a. f (d ∙ a.per_argument j (omega arith) ∙ sym e);
          }

    -- all have the same values
    pub compare_end : n ≤ j → ComparedBy nodes arguments value g h true
    compare_end m =
        record {
          alike = λ z. record { name = s.name; count = s.count; per_argument = λ i q. s.per_argument i (omega arith) };
          different = λ z. absurd (false≢true (sym z));
        }

-- Comparing by values that are names.
pub compared_names : (nodes arguments heads names : List ℕ) (value : ℕ → ℕ) (g h : ℕ) (r : Bool) →
    ((j : ℕ) → j < count_of nodes g → value (argument_of nodes arguments g j) ≡ value_name heads names (argument_of nodes arguments g j)) →
    ((j : ℕ) → j < count_of nodes h → value (argument_of nodes arguments h j) ≡ value_name heads names (argument_of nodes arguments h j)) →
    ComparedBy nodes arguments value g h r → Compared nodes arguments heads names g h r
compared_names nodes arguments heads names value g h r d e c =
    record {
      alike = λ z.
          let a = c.alike z in
          record {
            name = a.name;
            count = a.count;
            per_argument = λ j q. sym (d j q) ∙ a.per_argument j q ∙ e j (let f = a.count in omega (arith, f, q));
          };
      different = λ z a.
          c.different z
          (record {
            name = a.name;
            count = a.count;
            per_argument = λ j q. d j q ∙ a.per_argument j q ∙ sym (e j (let f = a.count in omega (arith, f, q)));
          });
    }
