-- The complete listing holds nothing idle: every entry has an instance. In an instance each term is in the label that its digit counts to.
-- The unifier gives the variables, and each label holds what the digits put there and no rest. A label stands once, so no other place asks
-- anything of it. Assumes nothing.
use Prim.Native.Nat.{ℕ, suc, ◌+◌, ◌<◌}
use mathlib.Core.Bool.{Bool, cond}
use mathlib.Core.List.Memᴰ
use mathlib.Core.List.{List, [], ◌∷◌, Memᴰ}
use mathlib.Core.Logic.{◌↔◌}
use mathlib.Core.Path.{◌≡◌, refl, sym, ap}
use native.Mathlib.Omega.{arith}
use lib.ListN.{length, take, drop}
use Rattle.table.specs.Layout.{word}
use Rattle.table.specs.Refusal.{first_held}
use Rattle.terms.specs.Term.{Term, var}
use Rattle.terms.specs.Substitution.{sub}
use Rattle.terms.proofs.SubstitutionLaws.{sub_var}
use Rattle.unification.specs.Unifier.{value}
use Rattle.unification.specs.Words.{Rising, before}
use Rattle.unification.specs.Computed.Unifying.{unifier}
use Rattle.unification.proofs.NodeLaws.{value_after_lem}
use Rattle.multiset_unification.specs.Problem.{Half, half_labels, Problem}
use Rattle.multiset_unification.specs.Entry.{half_digits, shares, pairs_of, Share, digits_of}
use Rattle.multiset_unification.specs.Assignment.{Assignment, EqualSides}
use Rattle.multiset_unification.specs.Instance.{HalfFilled, Instance}
use Rattle.multiset_unification.specs.Answer.{listed}
use Rattle.multiset_unification.specs.Computed.Choices.{among}
use Rattle.multiset_unification.specs.Computed.Listing.{admissible_listing, complete_listing}
use Rattle.multiset_unification.specs.Code.Posed.{HalfPosed, NoCommon, Posed}
use Rattle.multiset_unification.proofs.ChoiceLaws.{among_member, among_not}
use Rattle.multiset_unification.proofs.HalfLaws.{filled_labels, half_put, put_filled, in_its_right, in_its_left}
use Rattle.multiset_unification.proofs.HalvesLaws.{share_half, EachShare}
use Rattle.multiset_unification.proofs.ProblemLaws.{share_posed}
use Rattle.multiset_unification.proofs.EntryLaws.{entry_readable}
use Rattle.multiset_unification.proofs.CompleteLaws.{complete_entry}
use Rattle.multiset_unification.proofs.AnswerLaws.{Refusals, full_exactly, full_less}
use Rattle.multiset_unification.proofs.Page14.{page14, page14_empty}

module _ (v : ℕ → Term) where
  -- What the digits of all halves put in each label: a label is in one half at most.
  unfoldable all_put : List (Half × List ℕ) → ℕ → List Term
  all_put [] l = []
  all_put (s ∷ ss) l = cond (among l (half_labels s.0)) (half_put v s.0 s.1 l) (all_put ss l)

  -- labels that hold this, and no rests, are filled in each half
  all_filled : {n : ℕ} (hs : List Half) → ((h : Half) → Memᴰ h hs → HalfPosed n h) → Rising NoCommon hs → (ds : List ℕ) →
      EachShare (λ h es. HalfFilled h es v (all_put (shares hs ds))) hs ds
  unfolding all_put shares
  all_filled [] g r ds h es m = absurd (Memᴰ.not-nil m)
  all_filled (k ∷ hs) g (before b r) ds h es (Memᴰ.head e) =
      let x : h ≡ k = ap (λ (s : Half × List ℕ). s.0) e in
      let y : es ≡ take (half_digits k) ds = ap (λ (s : Half × List ℕ). s.1) e in
      let fs = take (half_digits k) ds in
      rw (x, y)
      (filled_labels k (half_put v k fs) _ (λ l m u. rw ((among_member l (half_labels k)).1 m) refl) fs v (put_filled v k fs (g k (Memᴰ.head refl))))
  all_filled (k ∷ hs) g (before b r) ds h es (Memᴰ.tail m) =
      let fs = drop (half_digits k) ds in
      let c = b h (share_half hs fs h es m) in
      filled_labels h (all_put (shares hs fs)) _ (λ l n u. rw (among_not l (half_labels k) (λ o. c l o n)) refl) es v
      (all_filled hs (λ j o. g j (Memᴰ.tail o)) r fs h es m)

-- every entry of an admissible choice has an instance
pub entry_instance : (p : Problem) → Posed p → (e : List ℕ) → Memᴰ e (admissible_listing p) → (A : Assignment) × Instance p A e
entry_instance p ok e m =
    let σ = unifier p.nodes (pairs_of p (digits_of p e)) in
    let v : ℕ → Term = λ a. sub var (value p.nodes σ a) in (
      record { variables = σ; labels = all_put v (shares p.halves (digits_of p e)) },
      record {
        unifier = σ;
        read = entry_readable p e ok m;
        after = var;
        variables = λ x q. sym (sub_var (σ x));
        labels = all_filled v p.halves ok.each ok.apart (digits_of p e);
      },
    )

-- some assignment makes the sides equal exactly if the complete listing has an entry
pub equal_somewhere : (p : Problem) → Posed p → ((A : Assignment) × EqualSides p A) ↔ ((e : List ℕ) × Memᴰ e (complete_listing p))
equal_somewhere p ok = (
  (λ s. let i = (page14 p ok s.0).0 s.1 in (i.0, i.1)),
  (λ s. let n = entry_instance p ok s.0 (complete_entry p s.0 s.1) in (n.0, (page14 p ok n.0).1 (s.0, s.1, n.1))),
)

-- where a listing of the problem is answered as full, some assignment makes the sides equal
pub full_somewhere : (p : Problem) (cs : List (ℕ × Bool)) → Refusals cs → (first_held cs ≡ 0 → Posed p) → (lent : ℕ) →
    (listed cs (complete_listing p) lent).answer ≡ 10 → (A : Assignment) × EqualSides p A
full_somewhere p cs g ok lent e =
    (equal_somewhere p (ok ((full_exactly cs (complete_listing p) lent g).0 e).0)).1
    (first (complete_listing p) _ (full_less cs (complete_listing p) lent g e))
  where
    first : (es : List (List ℕ)) (k : ℕ) → k < length es → (f : List ℕ) × Memᴰ f es
    first [] k h = absurd (omega arith)
    first (f ∷ es) k h = (f, Memᴰ.head refl)

-- the complete listing is empty exactly if no assignment makes the sides equal
pub empty_exactly : (p : Problem) → Posed p → complete_listing p ≡ [] ↔ ((A : Assignment) → EqualSides p A → ⊥)
empty_exactly p ok = (page14_empty p ok, λ n. go (complete_listing p) refl n)
  where
    go : (es : List (List ℕ)) → complete_listing p ≡ es → ((A : Assignment) → EqualSides p A → ⊥) → es ≡ []
    go [] q n = refl
    go (e ∷ es) q n =
        let s = (equal_somewhere p ok).1 (e, rw q (Memᴰ.head refl)) in
        absurd (n s.0 s.1)

module _ (p : Problem) (ok : Posed p) (A : Assignment) (e : List ℕ) (n : Instance p A e) (h : Half) (ds : List ℕ)
    (m : Share p (digits_of p e) h ds) where
  node_value : (a : ℕ) → a < length p.nodes → value p.nodes A.variables a ≡ sub n.after (value p.nodes n.unifier a)
  node_value = value_after_lem p.nodes ok.well_formed n.unifier A.variables n.after n.variables

  -- in an instance of an entry, a left term of a half with digit m + q is in the multiset of its right label q
  pub instance_right : (i q : ℕ) → i < length h.left → q < length h.right_labels → word ds i ≡ length h.right + suc q →
      Memᴰ (value p.nodes A.variables (word h.left i)) (A.labels (word h.right_labels q))
  instance_right i q b l d =
      rw (node_value (word h.left i) ((share_posed p ok (digits_of p e) h ds m).left_node i b))
      (in_its_right h ds _ A.labels (n.labels h ds m) i q b l d)

  -- and a right term with digit p in that of its left label p
  pub instance_left : (j q : ℕ) → j < length h.right → q < length h.left_labels → word (drop (length h.left) ds) j ≡ suc q →
      Memᴰ (value p.nodes A.variables (word h.right j)) (A.labels (word h.left_labels q))
  instance_left j q b l d =
      rw (node_value (word h.right j) ((share_posed p ok (digits_of p e) h ds m).right_node_lem j b))
      (in_its_left h ds _ A.labels (n.labels h ds m) j q b l d)
