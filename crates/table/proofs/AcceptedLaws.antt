-- A table gets no refusal exactly if all holds that acceptance means: it is laid out, and its nodes and sides are right.
-- Assumes nothing.
use Prim.Native.Nat.{ℕ, ◌<◌, ◌≤◌}
use mathlib.Core.Bool.{Bool}
use mathlib.Core.Path.{◌≡◌, refl}
use mathlib.Core.Logic.{◌↔◌}
use mathlib.Core.List.{List, ◌++◌}
use lib.ListN.{length, take}
use Rattle.table.specs.Limits.{sections}
use Rattle.table.specs.Layout.{nodes_of, arguments_of, left_terms_of, left_labels_of, right_terms_of, right_labels_of, size, section}
use Rattle.table.specs.Code.Sections.{sections_to, limits_to}
use Rattle.table.specs.Code.Reading.{HasSection, RunsInside}
use Rattle.table.specs.Refusal.{conditions, refusal}
use Rattle.table.specs.Code.Accepted.{NodesRight, Accepted}
use Rattle.table.proofs.ConditionLaws.{runs_inside, right_nodes_mean, right_sides_mean}
use Rattle.table.proofs.SectionLaws.{laid_out_means, has_section, section_length, sections_whole, words_most}
use Rattle.table.proofs.RefusalLaws.{First, later, none, refused, pass, none_both, conditions_numbered}

accepts : (t : List ℕ) → First 0 (conditions t) → Accepted t
unfolding conditions
accepts t z =
    let a = pass z in
    let b = pass a.1 in
    let c = pass b.1 in
    let d = pass c.1 in
    let f = pass d.1 in
    let g = pass f.1 in
    let h = pass g.1 in
    record {
      laid_out = (laid_out_means _ t).0 (a.0, b.0, c.0);
      right_nodes = (right_nodes_mean _ _).0 (d.0, f.0);
      right_sides = (right_sides_mean _ _ _ _).0 (g.0, h.0);
    }

none_held : (t : List ℕ) → Accepted t → First 0 (conditions t)
unfolding conditions
none_held t a =
    let l = (laid_out_means _ t).1 a.laid_out in
    let n = (right_nodes_mean _ _).1 a.right_nodes in
    let s = (right_sides_mean _ _ _ _).1 a.right_sides in
    later l.0 (later l.1 (later l.2 (later n.0 (later n.1 (later s.0 (later s.1 (none refl)))))))

-- a table gets no refusal exactly if all holds that acceptance means
pub accepted : (t : List ℕ) → refusal t ≡ 0 ↔ Accepted t
accepted t = ((λ e. accepts t ((refused t 0).0 e)), (λ a. (refused t 0).1 (none_held t a)))

-- no condition holds, of the table or after them, exactly if the table is accepted and none holds after them
pub accepted_first : (t : List ℕ) (cs : List (ℕ × Bool)) → First 0 (conditions t ++ cs) ↔ (Accepted t × First 0 cs)
accepted_first t cs =
    let b = none_both (conditions t) cs (conditions_numbered t) in
    ((λ z. let r = b.0 z in (accepts t r.0, r.1)), (λ a. b.1 (none_held t a.0, a.1)))

-- where nodes and arguments are right, the arguments of each node are a run inside their section
pub arguments_inside : (ns args : List ℕ) → NodesRight ns args → RunsInside ns args
arguments_inside ns args r = runs_inside ns args r.each_node r.counts

module _ (t : List ℕ) (a : Accepted t) where
  -- each section of an accepted table can be read, and is as long as its pair says
  pub readable : (k : ℕ) → k < length sections → HasSection t k
  readable = has_section sections t a.laid_out

  pub section_long : (k : ℕ) → k < length sections → length (section t k) ≡ size t k
  section_long = section_length sections t a.laid_out

  -- the header and the six sections, one after the other, are the table
  pub end_to_end : take 12 t ++ nodes_of t ++ arguments_of t ++ left_terms_of t ++ left_labels_of t ++ right_terms_of t ++ right_labels_of t ≡ t
  unfolding sections_to
  end_to_end = sections_whole sections t a.laid_out

-- an accepted table has at most 1572 words: twelve, and six sections within their limits
pub table_most : (t : List ℕ) → refusal t ≡ 0 → length t ≤ 1572
unfolding limits_to
table_most t r = words_most sections t ((accepted t).0 r).laid_out
