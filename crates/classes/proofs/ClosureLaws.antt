-- How classes come nearer to the closure: a pair of one class is done, and joining two classes trades a pair for the pairs of their
-- heads' arguments. Assumes nothing.
use Prim.Native.Nat.{ℕ, ◌<◌}
use mathlib.Core.List.Memᴰ
use mathlib.Core.List.{List, [], ◌∷◌, Memᴰ, zip}
use mathlib.Core.Path.{◌≡◌, refl, sym, ap, ◌∙◌}
use native.Mathlib.Decide.{ℕ_discrete}
use native.Mathlib.Omega.{arith}
use lib.ListN.{length}
use Rattle.unification.specs.Node.{Node, variable, application, node_at}
use Rattle.unification.specs.Closure.{OneSymbol, Joined, given, back, on, Clash, different}
use Rattle.unification.specs.Computed.Classes.{class_of, join}
use Rattle.unification.specs.Code.Given.{WellFormed, Inside}
use Rattle.unification.specs.Code.Heads.{Partition, Unites}
use Rattle.unification.specs.Code.Solved.{HeadFits, IsClosure}
use Rattle.unification.proofs.ListLaws.{zip_left, zip_right, zip_through}
use Rattle.unification.proofs.JoinedLaws.{more_joined, classes_stay}
use Rattle.unification.proofs.CountLaws.{join_length, join_second, join_other, join_first, join_stays, unites_front}
use Rattle.classes.specs.Code.Closure.{Coarser, Linked, HeadLinks, ClosureUpTo}

-- Where the pairs of todo' are joined, those of todo are.
abbrev Covers : List ℕ → List (ℕ × ℕ) → List (ℕ × ℕ) → Type 0
Covers heads todo todo' = (ds : List ℕ) → Coarser heads ds → Unites ds todo' → Unites ds todo

-- The nodes of each pair are joined.
abbrev pub Wanted : List Node → List (ℕ × ℕ) → List (ℕ × ℕ) → Type 0
Wanted ns ps todo = (a b : ℕ) → Memᴰ (a, b) todo → Joined ns ps a b

-- what is linked stays so in coarser classes
linked_on : (heads heads' : List ℕ) (todo todo' : List (ℕ × ℕ)) → length heads' ≡ length heads → Coarser heads heads' →
    Covers heads' todo todo' → (a b : ℕ) → Linked heads todo a b → Linked heads' todo' a b
linked_on heads heads' todo todo' l h k a b s ds c u = s ds (λ i j p q e. c i j (rw l p) (rw l q) (h i j p q e)) (k ds c u)

-- other pairs may stand for those that are still to be joined
pub retold : (ns : List Node) (ps : List (ℕ × ℕ)) (heads : List ℕ) (todo todo' : List (ℕ × ℕ)) → Covers heads todo todo' → Wanted ns ps todo' →
    ClosureUpTo ns ps heads todo → ClosureUpTo ns ps heads todo'
retold ns ps heads todo todo' k w c =
    record {
      joined = c.joined;
      wanted = w;
      given = λ a b m. linked_on heads heads todo todo' refl (λ i j p q e. e) k a b (c.given a b m);
      one_variable = c.one_variable;
      applications = λ i f us p d.
          let x = c.applications i f us p d in
          record {
            arguments = x.arguments;
            applied = x.applied;
            as_long = x.as_long;
            linked =
                λ a b m. linked_on heads heads todo todo' refl (λ i j p q e. e) k a b (x.linked a b m);
          };
    }

-- a pair of one class is done
pub already : (ns : List Node) (ps : List (ℕ × ℕ)) (heads : List ℕ) (a b : ℕ) (todo : List (ℕ × ℕ)) → a < length heads → b < length heads →
    class_of heads a ≡ class_of heads b → ClosureUpTo ns ps heads ((a, b) ∷ todo) → ClosureUpTo ns ps heads todo
already ns ps heads a b todo p q e c =
    retold ns ps heads ((a, b) ∷ todo) todo (λ ds h u. unites_front ds a b todo (h a b p q e) u) (λ x y m. c.wanted x y (Memᴰ.tail m)) c

-- two applications of different symbols in the classes of a pair clash
pub heads_clash : (ns : List Node) (ps : List (ℕ × ℕ)) (heads : List ℕ) (a b : ℕ) (todo : List (ℕ × ℕ)) → a < length ns → b < length ns →
    (f g : ℕ) (us vs : List ℕ) → node_at ns (class_of heads a) ≡ application f us → node_at ns (class_of heads b) ≡ application g vs →
    (OneSymbol f us g vs → ⊥) → ClosureUpTo ns ps heads ((a, b) ∷ todo) → Clash ns ps
heads_clash ns ps heads a b todo p q f g us vs d e n c =
    different (on (on (back (c.joined a p)) (c.wanted a b (Memᴰ.head refl))) (c.joined b q)) d e n

-- The class of node y becomes a part of the class of node x: what their heads have to be.
abbrev pub HeadsMeet : List Node → List ℕ → ℕ → ℕ → List (ℕ × ℕ) → Type 0
HeadsMeet ns heads x y todo =
    (f : ℕ) (us : List ℕ) → node_at ns (class_of heads y) ≡ application f us →
    (vs : List ℕ) × (node_at ns (class_of heads x) ≡ application f vs) × (length us ≡ length vs) ×
    ((a b : ℕ) → Memᴰ (a, b) (zip us vs) → Linked (join heads (x, y)) todo a b)

-- nodes that are joined have one class
pub united : (heads : List ℕ) (x y : ℕ) → x < length heads → y < length heads → class_of (join heads (x, y)) x ≡ class_of (join heads (x, y)) y
united heads x y p q = join_first heads x y x p refl ∙ sym (join_second heads x y y q refl)

module _ (ns : List Node) (ps : List (ℕ × ℕ)) (heads : List ℕ) (x y : ℕ) (todo todo' : List (ℕ × ℕ)) (l : length heads ≡ length ns)
    (hx : x < length ns) (hy : y < length ns) (link : Joined ns ps x y) (meet : HeadsMeet ns heads x y todo')
    (k : Covers (join heads (x, y)) todo todo') (w : Wanted ns ps todo') (c : ClosureUpTo ns ps heads todo) where
  in_list : (i : ℕ) → i < length ns → i < length heads
  in_list i p = rw l p

  linked_still : (a b : ℕ) → Linked heads todo a b → Linked (join heads (x, y)) todo' a b
  linked_still = linked_on heads (join heads (x, y)) todo todo' (join_length heads (x, y)) (λ i j p q e. join_stays heads x y i j p q e) k

  applications_after : (i f : ℕ) (us : List ℕ) → i < length ns → node_at ns i ≡ application f us → HeadLinks ns (join heads (x, y)) todo' i f us
  applications_after i f us p d = go (c.applications i f us p d) (ℕ_discrete (class_of heads i) (class_of heads y))
    where
      go : HeadLinks ns heads todo i f us → Dec (class_of heads i ≡ class_of heads y) → HeadLinks ns (join heads (x, y)) todo' i f us
      go h (yes z) = through (meet f h.arguments (ap (node_at ns) (sym z) ∙ h.applied))
        where
          through :
              ((vs : List ℕ) × (node_at ns (class_of heads x) ≡ application f vs) × (length h.arguments ≡ length vs) ×
              ((a b : ℕ) → Memᴰ (a, b) (zip h.arguments vs) → Linked (join heads (x, y)) todo' a b)) →
              HeadLinks ns (join heads (x, y)) todo' i f us
          through (vs, e, n, r) =
              record {
                arguments = vs;
                applied = ap (node_at ns) (join_second heads x y i (in_list i p) z) ∙ e;
                as_long = h.as_long ∙ n;
                linked = λ a b m.
                    let t = zip_through us h.arguments vs h.as_long n a b m in
                    λ ds v u. linked_still a t.0 (h.linked a t.0 t.1) ds v u ∙ r t.0 b t.2 ds v u;
              }
      go h (no z) =
          record {
            arguments = h.arguments;
            applied = ap (node_at ns) (join_other heads x y i (in_list i p) z) ∙ h.applied;
            as_long = h.as_long;
            linked = λ a b m. linked_still a b (h.linked a b m);
          }

  -- joining two classes
  pub classes_joined : ClosureUpTo ns ps (join heads (x, y)) todo'
  classes_joined =
      record {
        joined = classes_stay ns ps heads x y l hx hy link c.joined;
        wanted = w;
        given = λ a b m. linked_still a b (c.given a b m);
        one_variable = λ i j v p q d e. join_stays heads x y i j (in_list i p) (in_list j q) (c.one_variable i j v p q d e);
        applications = applications_after;
      }

-- a class whose head is a variable has no application in it
pub variable_meets : (ns : List Node) (heads : List ℕ) (x y v : ℕ) (todo : List (ℕ × ℕ)) → node_at ns (class_of heads y) ≡ variable v →
    HeadsMeet ns heads x y todo
variable_meets ns heads x y v todo e f us d =
    let q : variable v ≡ application f us = sym e ∙ d in
    let z : ◌≡◌ {A = ℕ} 0 1 = cc in
    absurd (omega arith)

-- the closure of a list of pairs is that of one pair more but for this pair
pub opened : (ns : List Node) → WellFormed ns → (ps : List (ℕ × ℕ)) → Inside ns ps → (heads : List ℕ) → Partition (length ns) heads → (a b : ℕ) →
    IsClosure ns ps (class_of heads) → ClosureUpTo ns ((a, b) ∷ ps) heads ((a, b) ∷ [])
opened ns w ps inside heads p a b s =
    record {
      joined = λ i h. more i (class_of heads i) (s.joined i h);
      wanted = λ c d m. given (front c d m);
      given = λ c d m. of_given c d m;
      one_variable = s.one_variable;
      applications = λ i f us h e. fits i f us h e (s.applications i f us h e);
    }
  where
    more : (i j : ℕ) → Joined ns ps i j → Joined ns ((a, b) ∷ ps) i j
    more i j q = more_joined ((a, b) ∷ ps) (λ r m. Memᴰ.tail m) q

    front : (c d : ℕ) → Memᴰ {A = ℕ × ℕ} (c, d) ((a, b) ∷ []) → Memᴰ {A = ℕ × ℕ} (c, d) ((a, b) ∷ ps)
    front c d (Memᴰ.head z) = Memᴰ.head z
    front c d (Memᴰ.tail m) = absurd (Memᴰ.not-nil m)

    linked_now : (c d : ℕ) → c < length ns → d < length ns → class_of heads c ≡ class_of heads d → Linked heads ((a, b) ∷ []) c d
    linked_now c d h k e ds v u = v c d (rw p.size h) (rw p.size k) e

    of_given : (c d : ℕ) → Memᴰ {A = ℕ × ℕ} (c, d) ((a, b) ∷ ps) → Linked heads ((a, b) ∷ []) c d
    of_given c d (Memᴰ.head z) = λ ds v u. u c d (Memᴰ.head z)
    of_given c d (Memᴰ.tail m) = linked_now c d (inside c d m).0 (inside c d m).1 (s.given c d m)

    fits : (i f : ℕ) (us : List ℕ) → i < length ns → node_at ns i ≡ application f us → HeadFits ns (class_of heads) i f us →
        HeadLinks ns heads ((a, b) ∷ []) i f us
    fits i f us h e x =
        record {
          arguments = x.arguments;
          applied = x.applied;
          as_long = x.as_long;
          linked = λ c d m.
              let g : class_of heads i < length ns = p.below i h in
              let k : c < i = w.smaller i f us h e c (zip_left us x.arguments c d m) in
              let n : d < class_of heads i = w.smaller (class_of heads i) f x.arguments g x.applied d (zip_right us x.arguments c d m) in
              linked_now c d (omega arith) (omega arith) (x.one_head c d m);
        }

-- with no pair left they are the closure
pub closure_at_last : (ns : List Node) (ps : List (ℕ × ℕ)) (heads : List ℕ) → ClosureUpTo ns ps heads [] → IsClosure ns ps (class_of heads)
closure_at_last ns ps heads c =
    record {
      joined = c.joined;
      given = λ a b m. now_linked a b (c.given a b m);
      one_variable = c.one_variable;
      applications = λ i f us p d.
          let x = c.applications i f us p d in
          record { arguments = x.arguments; applied = x.applied; as_long = x.as_long; one_head = λ a b m. now_linked a b (x.linked a b m) };
    }
  where
    now_linked : (a b : ℕ) → Linked heads [] a b → class_of heads a ≡ class_of heads b
    now_linked a b l = l heads (λ i j p q e. e) (λ x y m. absurd (Memᴰ.not-nil m))
