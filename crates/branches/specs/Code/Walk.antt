-- The walk over left digits, depth first, as the code goes: a functional program that mirrors it (`below_listing`).
use Rattle.std.specs.Prelude.{ℕ, zero, suc, ◌+◌, ◌-◌, ◌≤◌, ◌<◌, Bool, true, false, cond, List, [], ◌∷◌, ◌++◌, map, ◌↔◌, ◌≡◌, eqb, leb, length, take, drop, set, replicate, Result}
use Rattle.table.specs.Layout.{word, node_count}
use Rattle.terms.specs.Substitution.{Substitution}
use Rattle.unification.specs.Node.{Node, nodes_from}
use Rattle.unification.specs.Unifier.{Unifies}
use Rattle.unification.specs.Outcome.{Outcome, unified, clash, occurs}
use Rattle.unification.specs.Computed.Unifying.{outcome, words_of}
use Rattle.unification.specs.Code.Given.{Inside}
use Rattle.nodes.specs.Code.Trail.{Trailed}
use Rattle.nodes.specs.Code.Formed.{Formed, Stands}
use Rattle.multiset_unification.specs.Code.InEvery.{NoneAdmissible, InEvery}
use Rattle.entries.specs.declared.writing.Full.{Full}
use Rattle.entries.specs.Code.Writing.{marked, Writes, Remains}
use Rattle.branches.specs.Code.Known.{left_count, right_count, left_labels, right_labels, width_in, left_in, right_in, KnownOf, SidesKnown, KeepsKnown}
use Rattle.branches.specs.Code.Ahead.{Completable, MayPair, PairedSet}

-- What f has for each of c digits from d on.
unfoldable pub over : ℕ → ℕ → (ℕ → List (List ℕ)) → List (List ℕ)
over d zero f = []
over d (suc c) f = f d ++ over (suc d) c f

-- Entries of pairs that have a unifier; there are none of others.
unfoldable pub if_unified : Outcome → List (List ℕ) → List (List ℕ)
if_unified unified es = es
if_unified clash es = []
if_unified occurs es = []

-- What f has for a branch and digit d of its next left term a: ds are the left digits so far, ps the pairs, marks the right terms (0 where paired).
unfoldable pub on_digit : List Node → List ℕ → (List ℕ → List (ℕ × ℕ) → List ℕ → List (List ℕ)) → List ℕ → List (ℕ × ℕ) → List ℕ → ℕ → ℕ → List (List ℕ)
on_digit ns rs f ds ps marks a d =
    cond (leb d (length rs))
    (cond (eqb (word marks (d - 1)) 0) []
    (if_unified (outcome ns ((a, word rs (d - 1)) ∷ ps)) (f (ds ++ d ∷ []) ((a, word rs (d - 1)) ∷ ps) (set marks (d - 1) 0))))
    (f (ds ++ d ∷ []) ps marks)

-- The entries of a whole string of left digits: one for each string of right digits, all with the same binding words.
abbrev pub string_entries : List Node → ℕ → List ℕ → List (ℕ × ℕ) → List ℕ → List (List ℕ)
string_entries ns k ds ps marks = map (λ es. ds ++ es ++ words_of ns ps) (marked k marks)

-- The entries below a branch, where left terms ls are still to go; k and l are the numbers of labels.
unfoldable pub below : List Node → List ℕ → ℕ → ℕ → List ℕ → List ℕ → List (ℕ × ℕ) → List ℕ → List (List ℕ)
below ns rs k l [] ds ps marks = string_entries ns k ds ps marks
below ns rs k l (a ∷ ls) ds ps marks = over 1 (length rs + l) (λ d. on_digit ns rs (below ns rs k l ls) ds ps marks a d)

-- The classes stand for pairs with the same unifiers as ps.
pub record Standing (nodes arguments heads : List ℕ) (ps : List (ℕ × ℕ)) : Type 0 where
  pub pairs : List (ℕ × ℕ)
  pub stands : Stands nodes arguments heads pairs
  pub inside : Inside (nodes_from nodes arguments) ps
  pub unifiers : (σ : Substitution) → Unifies (nodes_from nodes arguments) pairs σ ↔ Unifies (nodes_from nodes arguments) ps σ

-- The same, and pairs of terms that are not in the sets of what is known have no common value on top of ps.
pub record Pairing (nodes arguments known heads : List ℕ) (ps : List (ℕ × ℕ)) : Type 0 where
  pub standing : Standing nodes arguments heads ps
  pub partners : MayPair nodes arguments known ps

-- The marks of the right terms in an entry: 0 where paired.
abbrev pub marks_in : List ℕ → List ℕ → List ℕ
marks_in known entry = take (right_count known) (drop (left_count known) entry)

-- A branch as it stands in an entry: the digits of the first i left terms, and a mark for each right term, 0 where it is in the set of those
-- that are paired, and otherwise 1.
pub record Branching (known entry : List ℕ) (i paired : ℕ) : Type 0 where
  pub size : length entry ≡ width_in known
  pub depth : i ≤ left_count known
  pub small : (j : ℕ) → j < right_count known → word entry (left_count known + j) ≤ 1
  pub set_of : PairedSet (marks_in known entry) paired

-- The digits of the first i left terms and the marks are as before.
pub record KeepsBranch (known : List ℕ) (i : ℕ) (entry entry' : List ℕ) : Type 0 where
  pub size : length entry' ≡ length entry
  pub digits : take i entry' ≡ take i entry
  pub marks : marks_in known entry' ≡ marks_in known entry

-- The entries below a branch whose next left term has digit d: ps are the pairs of its digits, together with those that every choice has.
abbrev pub digit_entries : List ℕ → List ℕ → List ℕ → List ℕ → ℕ → List (ℕ × ℕ) → ℕ → List (List ℕ)
digit_entries nodes arguments known entry i ps d =
    on_digit (nodes_from nodes arguments) (right_in known)
    (below (nodes_from nodes arguments) (right_in known) (left_labels known) (right_labels known) (drop (i + 1) (left_in known)))
    (take i entry) ps (marks_in known entry) (word (left_in known) i) d

-- Those of the digits from d on.
abbrev pub digits_from : List ℕ → List ℕ → List ℕ → List ℕ → ℕ → List (ℕ × ℕ) → ℕ → List (List ℕ)
digits_from nodes arguments known entry i ps d =
    over d (suc (right_count known + right_labels known) - d) (λ e. digit_entries nodes arguments known entry i ps e)

-- The entries below a branch whose next left term has a digit from `least` on; where every left term has its digit, all of them.
unfoldable pub branch_entries : List ℕ → List ℕ → List ℕ → List ℕ → ℕ → ℕ → List (ℕ × ℕ) → List (List ℕ)
branch_entries nodes arguments known entry i least ps =
    cond (eqb i (left_count known))
    (string_entries (nodes_from nodes arguments) (left_labels known) (take i entry) ps (marks_in known entry))
    (digits_from nodes arguments known entry i ps least)

-- What the walk needs to know: of what is known, of the classes and the branch, and of the lent words.
pub record Walking (nodes arguments known can heads next entry out : List ℕ) (i least paired at : ℕ) : Type 0 where
  pub knows : KnownOf nodes arguments known
  pub completable : Completable known can
  pub formed : Formed nodes arguments known heads
  pub trailed : Trailed (node_count nodes) heads next
  pub pairs : List (ℕ × ℕ)
  pub pairing : Pairing nodes arguments known heads pairs
  pub branching : Branching known entry i paired
  pub positive : 0 < least
  pub wide : 0 < width_in known
  pub room : at ≤ length out

-- The entries below the branch are written, whatever pairs the classes stand for, and the branch is as before.
pub record Walked (nodes arguments known heads entry out : List ℕ) (i least at : ℕ) (entry' out' : List ℕ) (r : Result ℕ Full) : Type 0 where
  pub writes : (ps : List (ℕ × ℕ)) → Pairing nodes arguments known heads ps → Writes (branch_entries nodes arguments known entry i least ps) out at out' r
  pub keeps : KeepsBranch known i entry entry'

-- Those of digit d.
pub record Stepped (nodes arguments known heads entry out : List ℕ) (i d at : ℕ) (entry' out' : List ℕ) (r : Result ℕ Full) : Type 0 where
  pub writes : (ps : List (ℕ × ℕ)) → Pairing nodes arguments known heads ps → Writes (digit_entries nodes arguments known entry i ps d) out at out' r
  pub keeps : KeepsBranch known i entry entry'

-- Those of the digits from d on.
pub record SteppedFrom (nodes arguments known heads entry out : List ℕ) (i d at : ℕ) (entry' out' : List ℕ) (r : Result ℕ Full) : Type 0 where
  pub writes : (ps : List (ℕ × ℕ)) → Pairing nodes arguments known heads ps → Writes (digits_from nodes arguments known entry i ps d) out at out' r
  pub keeps : KeepsBranch known i entry entry'

-- The entries below the branch without digits.
abbrev pub all_entries : List ℕ → List ℕ → List ℕ → List (ℕ × ℕ) → List (List ℕ)
all_entries nodes arguments known ps =
    below (nodes_from nodes arguments) (right_in known) (left_labels known) (right_labels known) (left_in known) [] ps (replicate (right_count known) 1)

-- No choice of what is known is admissible.
abbrev pub NoneOfKnown : List ℕ → List ℕ → List ℕ → Type 0
NoneOfKnown nodes arguments known =
    NoneAdmissible (nodes_from nodes arguments) (left_in known) (right_in known) (left_labels known) (right_labels known)

-- Every choice of what is known has the pairs ps.
abbrev pub InEveryKnown : List ℕ → List ℕ → List ℕ → List (ℕ × ℕ) → Type 0
InEveryKnown nodes arguments known ps =
    InEvery (nodes_from nodes arguments) (left_in known) (right_in known) (left_labels known) (right_labels known) ps

-- What the walk begins with: classes that stand for pairs that every choice has, and sets that lack only pairs that never join these.
pub record Based (nodes arguments known heads next : List ℕ) : Type 0 where
  pub formed : Formed nodes arguments known heads
  pub trailed : Trailed (node_count nodes) heads next
  pub pairs : List (ℕ × ℕ)
  pub pairing : Pairing nodes arguments known heads pairs
  pub in_every : InEveryKnown nodes arguments known pairs

-- What looking ahead comes to: the sets and the bits are right, or there is no entry at all, whatever pairs the classes stand for.
pub record LooksAhead (nodes arguments heads known known' can' : List ℕ) (r : Bool) : Type 0 where
  pub completable : r ≡ true → Completable known' can'
  pub partners : r ≡ true → (ps : List (ℕ × ℕ)) → Standing nodes arguments heads ps → MayPair nodes arguments known' ps
  pub none : r ≡ false → (ps : List (ℕ × ℕ)) → Standing nodes arguments heads ps → all_entries nodes arguments known ps ≡ []

-- What looking ahead comes to where pairs that every choice has are unified first: the sets, the bits and the classes are right, or there is
-- no entry at all.
pub record BasesAhead (nodes arguments known known' can' heads' next' : List ℕ) (r : Bool) : Type 0 where
  pub keeps : KeepsKnown known known'
  pub completable : r ≡ true → Completable known' can'
  pub based : r ≡ true → Based nodes arguments known' heads' next'
  pub none : r ≡ false → all_entries nodes arguments known [] ≡ []

-- What the end of a branch needs to know, where every left term has its digit: of what is known, of the classes, the branch and the lent words.
pub record Ending (nodes arguments known heads entry out : List ℕ) (paired at : ℕ) : Type 0 where
  pub knows : KnownOf nodes arguments known
  pub formed : Formed nodes arguments known heads
  pub pairs : List (ℕ × ℕ)
  pub standing : Standing nodes arguments heads pairs
  pub branching : Branching known entry (left_count known) paired
  pub wide : 0 < width_in known
  pub room : at ≤ length out

-- The binding words of the pairs that the classes stand for are put behind the digits.
pub record Binds (nodes arguments known heads entry entry' : List ℕ) : Type 0 where
  pub digits : take (left_count known + right_count known) entry' ≡ take (left_count known + right_count known) entry
  pub words : (ps : List (ℕ × ℕ)) → Standing nodes arguments heads ps →
      drop (left_count known + right_count known) entry' ≡ words_of (nodes_from nodes arguments) ps

-- What the loop over the digits of the next left term keeps: those from d on are still to be written, and the branch is as it was.
pub record Turning (nodes arguments known heads entry₀ out₀ : List ℕ) (i least at₀ d : ℕ) (entry out : List ℕ) (at : ℕ) : Type 0 where
  pub first : least ≤ d
  pub size : length out ≡ length out₀
  pub within : at ≤ length out
  pub keeps : KeepsBranch known i entry₀ entry
  pub remains : (ps : List (ℕ × ℕ)) → Pairing nodes arguments known heads ps →
      Remains (branch_entries nodes arguments known entry₀ i least ps) out₀ at₀ (digits_from nodes arguments known entry₀ i ps d) out at

-- What a listing begins with: the sides, the classes of no pair, and how many words an entry has.
pub record Begun (nodes arguments left right : List ℕ) (k l : ℕ) (heads next known : List ℕ) (width : ℕ) : Type 0 where
  pub sides : SidesKnown nodes arguments left right k l known
  pub formed : Formed nodes arguments known heads
  pub trailed : Trailed (node_count nodes) heads next
  pub standing : Standing nodes arguments heads []
  pub width_is : width ≡ width_in known
