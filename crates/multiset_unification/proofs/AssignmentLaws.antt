-- Of an assignment only the terms of the variables present and the multisets of the problem's labels matter.
-- Both sides are made of these, and so is all that an instance asks for. Assumes nothing.
use Prim.Native.Nat.{ℕ}
use mathlib.Core.List.{List, Memᴰ}
use mathlib.Core.Logic.{◌↔◌}
use mathlib.Core.Path.{◌≡◌, sym, ◌∙◌}
use Rattle.terms.proofs.MultisetLaws.{same_sym}
use Rattle.unification.specs.Node.{Present}
use Rattle.unification.proofs.NodeLaws.{value_agree}
use Rattle.multiset_unification.specs.Problem.{Half, Problem}
use Rattle.multiset_unification.specs.Entry.{digits_of}
use Rattle.multiset_unification.specs.Assignment.{Assignment, EqualSides}
use Rattle.multiset_unification.specs.Instance.{Instance}
use Rattle.multiset_unification.specs.Code.Posed.{Posed}
use Rattle.multiset_unification.proofs.HalfLaws.{SameLabels, balanced_agree, filled_labels}
use Rattle.multiset_unification.proofs.HalvesLaws.{share_half}

-- Two assignments give the variables present the same terms, and each label the same multiset.
pub record Agree (p : Problem) (A B : Assignment) : Type 0 where
  pub variables : (x : ℕ) → Present p.nodes x → A.variables x ≡ B.variables x
  pub labels : (h : Half) → Memᴰ h p.halves → SameLabels h A.labels B.labels

agree_back : (p : Problem) (A B : Assignment) → Agree p A B → Agree p B A
agree_back p A B g =
    record {
      variables = λ x q. sym (g.variables x q);
      labels = λ h k l m. same_sym (A.labels l) (B.labels l) (g.labels h k l m);
    }

module _ (p : Problem) (A B : Assignment) (g : Agree p A B) where
  equal_there : Posed p → EqualSides p A → EqualSides p B
  equal_there ok s h m =
      balanced_agree h (ok.each h m) p.nodes A B
      (value_agree p.nodes ok.well_formed A.variables B.variables g.variables)
      (g.labels h m) (s h m)

  instance_there : (e : List ℕ) → Instance p A e → Instance p B e
  instance_there e n =
      record {
        unifier = n.unifier;
        read = n.read;
        after = n.after;
        variables = λ x q. sym (g.variables x q) ∙ n.variables x q;
        labels =
            λ h ds m. filled_labels h A.labels B.labels (g.labels h (share_half p.halves (digits_of p e) h ds m)) ds _ (n.labels h ds m);
      }

-- assignments that agree on these make the sides equal alike
pub equal_agree : (p : Problem) → Posed p → (A B : Assignment) → Agree p A B → EqualSides p A ↔ EqualSides p B
equal_agree p ok A B g = (equal_there p A B g ok, equal_there p B A (agree_back p A B g) ok)

-- and are instances of the same entries
pub instance_agree : (p : Problem) (A B : Assignment) → Agree p A B → (e : List ℕ) → Instance p A e ↔ Instance p B e
instance_agree p A B g e = (instance_there p A B g e, instance_there p B A (agree_back p A B g) e)
