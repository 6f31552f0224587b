-- A call by its parts: the answer and the lent words are those of the entries that the walk writes, and all that `list` promises follows.
-- All entries have one length, so the words used tell how many there are. Assumes nothing.
use Prim.Native.Nat.{ℕ, zero, suc, ◌+◌, ◌-◌, ◌*◌, ◌/◌, ◌≤◌, ◌<◌}
use mathlib.Core.Bool.{Bool, true, false}
use mathlib.Core.List.Memᴰ
use mathlib.Core.List.{List, [], ◌∷◌, flatten, Memᴰ}
use mathlib.Core.Path.{◌≡◌, refl, sym, ap, ◌∙◌}
use native.Mathlib.Nat.{div-mul-le_self, lt-div-mul-add, div-lt_iff_lt-mul}
use native.Mathlib.Omega.{arith}
use lib.Arith.{digits_div}
use lib.ListN.{length, take, drop, set, replicate, length-replicate, get_or-replicate, replicate-append-replicate}
use lib.Seq.{drop_at, length-take-le}
use Rattle.std.specs.Prelude.{Result, Ok, Err}
use Rattle.table.specs.declared.Refusal.{Refusal}
use Rattle.table.specs.Limits.{max_nodes}
use Rattle.table.specs.Layout.{word, node_count, nodes_of, arguments_of, left_terms_of, left_labels_of, right_terms_of, right_labels_of}
use Rattle.table.specs.Answer.{number_of}
use Rattle.table.specs.Refusal.{conditions, refusal}
use Rattle.table.specs.Code.Sections.{left_terms}
use Rattle.table.specs.Code.Accepted.{Accepted}
use Rattle.table.proofs.AnswerLaws.{number_above}
use Rattle.unification.specs.Node.{nodes_in, nodes_from}
use Rattle.unification.specs.Computed.Variables.{variables_of}
use Rattle.unification.specs.Computed.Unifying.{words_of}
use Rattle.unification.proofs.ListLaws.{length_none, part_long}
use Rattle.unification.proofs.JoinedLaws.{inside_none}
use Rattle.unification.proofs.SectionLaws.{is_node, sections_well_formed}
use Rattle.unification.proofs.TableLaws.{sections_of, nodes_of_sections, well_formed}
use Rattle.unification.specs.Answer.{variable_count}
use Rattle.unification.proofs.AnswerLaws.{words_counted, variables_most}
use Rattle.table.proofs.AcceptedLaws.{accepted}
use Rattle.nodes.specs.Code.Open.{Counts, OpenListed}
use Rattle.nodes.specs.Code.Trail.{Trailed}
use Rattle.nodes.specs.Code.Formed.{Formed}
use Rattle.values.specs.Code.Begins.{BeginsShared}
use Rattle.multiset_unification.specs.declared.Listing.TheVariants.{Finished, Full}
use Rattle.multiset_unification.specs.Problem.{half_at, problem_of}
use Rattle.multiset_unification.specs.Answer.{Told, told, told_listing, fitting, lent_after}
use Rattle.multiset_unification.specs.Computed.Listing.{complete_listing}
use Rattle.multiset_unification.specs.Code.LeavesEntries.{LeavesEntries}
use Rattle.multiset_unification.specs.Code.InEvery.{NoneAdmissible}
use Rattle.multiset_unification.proofs.AnswerLaws.{nothing, nothing_held, fitting_all, fitting_left, answered_finished, answered_full}
use Rattle.multiset_unification.proofs.LentLaws.{flatten_long}
use Rattle.multiset_unification.proofs.PromiseLaws.{ListingPromised, refused_promised, listed_promised}
use Rattle.multiset_unification.proofs.CompleteLaws.{complete_admissible}
use Rattle.multiset_unification.proofs.OneHalfLaws.{one_posed}
use Rattle.multiset_unification.proofs.TableLaws.{posed, none_held, held_posed, table_refusals}
use Rattle.entries.specs.declared.writing.Full.{Full as Unfit}
use Rattle.entries.specs.Code.Writing.{put, full, Writes, marked}
use Rattle.entries.proofs.WritingLaws.{writes_fits, writes_used, writes_over, writes_long}
use Rattle.entries.proofs.BlockLaws.{fitting_wide}
use Rattle.symbols.specs.Code.Symbols.{SideOf}
use Rattle.branches.specs.Code.Known.{known_bytes, left_count, right_count, left_labels, right_labels, width_in, left_in, right_in, AllBytes, Listable, KnownOf, KeepsKnown, PutSides}
use Rattle.branches.specs.Code.Ahead.{Completable}
use Rattle.branches.specs.Code.Walk.{below, Standing, Pairing, marks_in, branch_entries, Walking, Walked, all_entries, Based, LooksAhead, BasesAhead, Begun}
use Rattle.branches.proofs.BelowLaws.{below_listing, below_long, below_never}
use Rattle.branches.proofs.SetLaws.{paired_first}
use Rattle.branches.proofs.KnownLaws.{right_long, left_kept, right_kept, known_kept, formed_kept}
use Rattle.branches.proofs.SidesLaws.{known_sides}
use Rattle.branches.proofs.BasedLaws.{based_entries}
use Rattle.walking.proofs.WalkLaws.{below_branch}

-- The entries of two sides with k and l labels, as the walk has them.
abbrev pub side_entries : List ℕ → List ℕ → List ℕ → List ℕ → ℕ → ℕ → List (List ℕ)
side_entries nodes arguments left right k l = below (nodes_from nodes arguments) right k l left [] [] (replicate (length right) 1)

-- of entries that have one length as many fit as that length goes into the lent words, if not all do
fitting_room : (width lent : ℕ) (es : List (List ℕ)) → 0 < width → ((e : List ℕ) → Memᴰ e es → length e ≡ width) → lent < length (flatten es) →
    length (fitting lent es) ≡ lent / width
fitting_room width lent es h l m =
    let f = fitting_wide width lent (lent / width) es l (div-mul-le_self lent width) (lt-div-mul-add h) in
    let t = flatten_long width es l in
    let q : lent / width < length es = (div-lt_iff_lt-mul h).1 (omega (arith, m, t)) in
    ap length f ∙ length-take-le (lent / width) es (omega (arith, q))

-- the lent words begin with the entries that fit
written_words : {es : List (List ℕ)} {lent lent' : List ℕ} {r : Result ℕ Unfit} → Writes es lent 0 lent' r → lent' ≡ lent_after [] es lent
unfolding put lent_after
written_words {es} {lent} x =
    let z : length lent - 0 ≡ length lent = omega arith in
    let o : 0 + length (flatten (fitting (length lent) es)) ≡ length (flatten (fitting (length lent) es)) = omega arith in
    let q = x.words in
    rw (fitting_left [] es (length lent) nothing_held) (rw (z, o) at q)

module _ {es : List (List ℕ)} {lent lent' : List ℕ} (width : ℕ) (h : 0 < width) (l : (e : List ℕ) → Memᴰ e es → length e ≡ width) where
  -- an entry did not fit
  pub written_full : Writes es lent 0 lent' (Err full) → LeavesEntries es lent (told_listing (Full (length lent' / width))) lent'
  written_full x =
      let less : length lent < length (flatten es) = omega (arith, writes_over x) in
      record {
        answer = rw (writes_long (omega arith) x, ← fitting_room width (length lent) es h l less)
            (sym (answered_full [] es (length lent) nothing nothing_held less));
        words = written_words x;
      }

  -- all entries did
  pub written_finished : {used : ℕ} → Writes es lent 0 lent' (Ok used) → LeavesEntries es lent (told_listing (Finished (used / width))) lent'
  written_finished {used} x =
      let fits : length (flatten es) ≤ length lent = omega (arith, writes_fits x) in
      let e : used ≡ length es * width + 0 = omega (arith, writes_used x, flatten_long width es l) in
      let counted : used / width ≡ length es = ap (λ (n : ℕ). n / width) e ∙ digits_div (length es) h in
      record {
        answer = rw counted (sym (answered_finished [] es (length lent) nothing nothing_held fits));
        words = written_words x;
      }

-- an entry of no words
abbrev empty : List (List ℕ)
empty = [] ∷ []

-- always fits
written_empty : (es : List (List ℕ)) (lent : List ℕ) → es ≡ empty → LeavesEntries es lent (told_listing (Finished 1)) lent
unfolding flatten lent_after
written_empty es lent e =
    let m : length (flatten empty) ≤ length lent = omega arith in
    rw e
    (record {
      answer = sym (answered_finished [] empty (length lent) nothing nothing_held m);
      words = rw (fitting_left [] empty (length lent) nothing_held, fitting_all (length lent) empty m) refl;
    })

-- no entries leave nothing
pub written_none : (es : List (List ℕ)) (lent : List ℕ) → es ≡ [] → LeavesEntries es lent (told_listing (Finished 0)) lent
unfolding flatten lent_after
written_none es lent e =
    let m : length (flatten {A = ℕ} []) ≤ length lent = omega arith in
    rw e
    (record {
      answer = sym (answered_finished [] [] (length lent) nothing nothing_held m);
      words = rw (fitting_left [] [] (length lent) nothing_held, fitting_all (length lent) [] m) refl;
    })

-- where entries have no words, there is one
all_empty : (nodes arguments left right : List ℕ) (k l : ℕ) → length left + length right + length (variables_of (nodes_from nodes arguments)) ≡ 0 →
    side_entries nodes arguments left right k l ≡ empty
unfolding below marked
all_empty nodes arguments [] [] k l h =
    ap (◌∷ []) (length_none (words_of (nodes_from nodes arguments) []) (words_counted (nodes_from nodes arguments) [] ∙ omega (arith, h)))
all_empty nodes arguments [] (b ∷ right) k l h = absurd (omega arith)
all_empty nodes arguments (a ∷ left) right k l h = absurd (omega arith)

-- what a listing begins with
module _ {nodes arguments left right : List ℕ} {k l v : ℕ} (g : Listable nodes arguments left right k l) {list heads : List ℕ}
    (s : BeginsShared nodes arguments v list heads) where
  -- terms are bytes
  pub left_bytes : AllBytes left
  left_bytes = record { small = λ j h. let q = g.left_nodes j h in omega (arith, q, g.sections.limit) }

  pub right_bytes : AllBytes right
  right_bytes = record { small = λ j h. let q = g.right_nodes j h in omega (arith, q, g.sections.limit) }

  -- the classes stand for no pair
  begun_standing : Standing nodes arguments heads []
  begun_standing =
      record {
        pairs = s.pairs;
        stands = s.stands;
        inside = inside_none (nodes_from nodes arguments);
        unifiers = λ σ. ((λ u a b m. absurd (Memᴰ.not-nil m)), (λ u. s.same σ));
      }

  -- all of it is begun
  pub begun : {next known₀ known₁ known : List ℕ} {r : ℕ} → list ≡ drop 512 known₀ → Trailed (node_count nodes) heads next →
      length known₀ ≡ known_bytes → Counts nodes arguments known₀ (node_count nodes) → r < max_nodes →
      OpenListed nodes known₀ (take r (drop 256 known₀)) → known₁ ≡ set known₀ 576 r → PutSides left right k l v known₁ known →
      Begun nodes arguments left right k l heads next known (length left + length right + v)
  begun {known = known} z t size c few o e p =
      let sides = known_sides g.sections size c few o e (ap (take v) (sym z) ∙ s.lists.least) s.lists.within s.lists.counted
      g.left_few g.right_few g.left_nodes g.right_nodes g.left_labels_lem g.right_labels_lem p in
      record {
        sides = sides;
        formed = s.formed known sides.knows.counts;
        trailed = t;
        standing = begun_standing;
        width_is = ap (λ (j : ℕ). length left + length right + j) s.lists.counted ∙ sym sides.width_is;
      }

-- a part of equal words
take_replicate : (n m x : ℕ) → n ≤ m → take n (replicate m x) ≡ replicate n x
take_replicate zero m x h = refl
take_replicate (suc n) zero x h = absurd (omega arith)
take_replicate (suc n) (suc m) x h = ap (x ∷◌) (take_replicate n m x (omega arith))

-- and the rest of them
drop_replicate : (n m x : ℕ) → drop n (replicate (n + m) x) ≡ replicate m x
drop_replicate n m x = ap (drop n) (sym (replicate-append-replicate n m x)) ∙ drop_at (replicate n x) (replicate m x) n (length-replicate n x)

-- a listing has begun
module _ {nodes arguments left right : List ℕ} {k l : ℕ} {heads next known : List ℕ} {width : ℕ}
    (g : Begun nodes arguments left right k l heads next known width) where
  -- an entry of no words is the only one
  pub begun_empty : width ≡ 0 → (lent : List ℕ) → LeavesEntries (side_entries nodes arguments left right k l) lent (told_listing (Finished 1)) lent
  begun_empty e lent =
      written_empty (side_entries nodes arguments left right k l) lent
      (all_empty nodes arguments left right k l (omega (arith, e, g.width_is, g.sides.width_is)))

  -- the entries of what is known are those of the sides
  known_entries : all_entries nodes arguments known [] ≡ side_entries nodes arguments left right k l
  known_entries =
      let m : right_count known ≡ length right = sym (right_long g.sides.knows) ∙ ap length g.sides.right_is in
      rw (g.sides.left_is, g.sides.right_is, g.sides.left_labelled, g.sides.right_labelled, m) refl

  -- each entry has so many words
  pub entries_wide : (x : List ℕ) → Memᴰ x (side_entries nodes arguments left right k l) → length x ≡ width
  entries_wide x m =
      let r = length-replicate {A = ℕ} (length right) 1 in
      let y = below_long (nodes_from nodes arguments) right k l left [] [] (replicate (length right) 1) x m in
      omega (arith, y, r, g.width_is, g.sides.width_is)

  -- The entry that the walk begins with.
  abbrev first_entry : List ℕ
  first_entry = take (width - 0) (replicate 80 1)

  -- what is known is the same but for the sets
  module _ {known' : List ℕ} (keeps : KeepsKnown known known') where
    knows : KnownOf nodes arguments known'
    knows = known_kept g.sides.knows keeps

    same_width : width_in known' ≡ width
    same_width = keeps.same 582 (omega arith) ∙ sym g.width_is

    -- there is room for an entry
    pub width_room : width ≤ 80
    width_room = omega (arith, same_width, knows.width, knows.left_few, knows.right_few, knows.list_few)

    -- it has only ones
    first_ones : first_entry ≡ replicate (left_count known' + (right_count known' + word known' 577)) 1
    first_ones =
        let z : width - 0 ≡ left_count known' + (right_count known' + word known' 577) = omega (arith, same_width, knows.width) in
        ap (λ (j : ℕ). take j (replicate 80 1)) z ∙ take_replicate (left_count known' + (right_count known' + word known' 577)) 80 1
        (omega (arith, z, width_room))

    -- no right term is marked as paired
    first_marks : marks_in known' first_entry ≡ replicate (right_count known') 1
    first_marks =
        ap (λ (q : List ℕ). take (right_count known') (drop (left_count known') q)) first_ones
        ∙ ap (take (right_count known')) (drop_replicate (left_count known') (right_count known' + word known' 577) 1)
        ∙ take_replicate (right_count known') (right_count known' + word known' 577) 1 (omega arith)

    -- what is known has the entries of the sides
    same_entries : all_entries nodes arguments known' [] ≡ side_entries nodes arguments left right k l
    same_entries =
        rw (
          left_kept g.sides.knows keeps,
          right_kept g.sides.knows keeps,
          keeps.same 579 (omega arith),
          keeps.same 580 (omega arith),
          keeps.same 581 (omega arith),
        ) known_entries

    -- the branch without digits, on top of pairs
    first_branch : (ps : List (ℕ × ℕ)) → branch_entries nodes arguments known' first_entry 0 1 ps ≡ all_entries nodes arguments known' ps
    first_branch ps =
        sym (below_branch knows first_entry 0 (omega arith) ps)
        ∙ ap (below (nodes_from nodes arguments) (right_in known') (left_labels known') (right_labels known') (left_in known') [] ps) first_marks

    -- what the walk needs to know, where the classes stand for pairs
    pairs_walking : {can heads' next' : List ℕ} → Completable known' can → Formed nodes arguments known' heads' →
        Trailed (node_count nodes) heads' next' → (ps : List (ℕ × ℕ)) → Pairing nodes arguments known' heads' ps → (width ≡ 0 → ⊥) →
        (lent : List ℕ) → Walking nodes arguments known' can heads' next' first_entry lent 0 1 0 0
    pairs_walking c f t ps p n lent =
        record {
          knows = knows;
          completable = c;
          formed = f;
          trailed = t;
          pairs = ps;
          pairing = p;
          branching = record {
            size = part_long (replicate 80 1) width width_room ∙ sym same_width;
            depth = omega arith;
            small = λ j h. let q : word first_entry (left_count known' + j) ≡ 1 = ap (λ (x : List ℕ). word x (left_count known' + j)) first_ones
                ∙ get_or-replicate {A = ℕ} (left_count known' + (right_count known' + word known' 577)) (left_count known' + j) 1 0
                (omega (arith, h)) in
                omega (arith, q);
            set_of = rw first_marks (paired_first (right_count known'));
          };
          positive = omega arith;
          wide = omega (arith, same_width, n);
          room = omega arith;
        }

    -- it was looked ahead, and the classes are as before
    module _ {can : List ℕ} {r : Bool} (a : LooksAhead nodes arguments heads known known' can r) where
      -- there is no entry
      pub ahead_none : r ≡ false → (lent : List ℕ) → LeavesEntries (side_entries nodes arguments left right k l) lent (told_listing (Finished 0)) lent
      ahead_none e lent = written_none (side_entries nodes arguments left right k l) lent (sym known_entries ∙ a.none e [] g.standing)

      -- there may be some
      module _ (e : r ≡ true) (n : width ≡ 0 → ⊥) where
        first_pairing : Pairing nodes arguments known' heads []
        first_pairing = record { standing = g.standing; partners = a.partners e [] g.standing }

        -- what the walk needs to know
        pub first_walking : (lent : List ℕ) → Walking nodes arguments known' can heads next first_entry lent 0 1 0 0
        first_walking lent =
            pairs_walking (a.completable e) (formed_kept g.sides.knows keeps g.formed) g.trailed [] first_pairing n lent

        -- it writes the entries of the sides
        pub first_walked : {lent entry' lent' : List ℕ} {w : Result ℕ Unfit} → Walked nodes arguments known' heads first_entry lent 0 1 0 entry' lent' w →
            Writes (side_entries nodes arguments left right k l) lent 0 lent' w
        first_walked y = rw (first_branch [] ∙ same_entries) at (y.writes [] first_pairing)

  -- it was looked ahead, and pairs that every choice has are unified
  module _ {known' can heads' next' : List ℕ} {r : Bool} (a : BasesAhead nodes arguments known known' can heads' next' r) where
    -- there is no entry
    pub based_none : r ≡ false → (lent : List ℕ) → LeavesEntries (side_entries nodes arguments left right k l) lent (told_listing (Finished 0)) lent
    based_none e lent = written_none (side_entries nodes arguments left right k l) lent (sym known_entries ∙ a.none e)

    -- there may be some
    module _ (e : r ≡ true) (n : width ≡ 0 → ⊥) where
      -- the classes stand for pairs that every choice has
      base : Based nodes arguments known' heads' next'
      base = a.based e

      -- what the walk needs to know
      pub based_walking : (lent : List ℕ) → Walking nodes arguments known' can heads' next' first_entry lent 0 1 0 0
      based_walking lent = pairs_walking a.keeps (a.completable e) base.formed base.trailed base.pairs base.pairing n lent

      -- it writes the entries of the sides
      pub based_walked : {lent entry' lent' : List ℕ} {w : Result ℕ Unfit} → Walked nodes arguments known' heads' first_entry lent 0 1 0 entry' lent' w →
          Writes (side_entries nodes arguments left right k l) lent 0 lent' w
      based_walked y =
          rw (first_branch a.keeps base.pairs ∙ based_entries (knows a.keeps) base ∙ same_entries a.keeps) at (y.writes base.pairs base.pairing)

-- an accepted table can be listed by its sections
pub listable : (t : List ℕ) → Accepted t → {k l : ℕ} → k ≡ length (left_labels_of t) → l ≡ length (right_labels_of t) →
    Listable (nodes_of t) (arguments_of t) (left_terms_of t) (right_terms_of t) k l
listable t g k l =
    record {
      sections = sections_of t g;
      left_few = g.laid_out.within_limits 2 (omega arith);
      right_few = g.laid_out.within_limits 4 (omega arith);
      left_nodes = g.right_sides.each_left_term;
      right_nodes = g.right_sides.each_right_term;
      left_labels_lem = rw k (g.laid_out.within_limits 3 (omega arith));
      right_labels_lem = rw l (g.laid_out.within_limits 5 (omega arith));
    }

-- and its entries are the complete listing
pub all_entries_lem : (t : List ℕ) → Accepted t → {k l : ℕ} → k ≡ length (left_labels_of t) → l ≡ length (right_labels_of t) →
    side_entries (nodes_of t) (arguments_of t) (left_terms_of t) (right_terms_of t) k l ≡ complete_listing (problem_of t)
all_entries_lem t g k l =
    let h = one_posed (half_at t left_terms) (nodes_in t) (posed t g) in
    rw (← nodes_of_sections t, k, l) (below_listing (nodes_in t) (well_formed t g) (half_at t left_terms) h) ∙
    sym (complete_admissible (problem_of t))

-- a list of one word
one_word : (xs : List ℕ) (a : ℕ) → length xs ≡ 1 → a ≡ word xs 0 → xs ≡ a ∷ []
one_word [] a h e = absurd (omega (arith, h))
one_word (x ∷ []) a h e = ap (◌∷ []) (sym e)
one_word (x ∷ y ∷ xs) a h e = absurd (omega (arith, h))

-- the entries of two single terms without labels
single_sides : (nodes arguments left right : List ℕ) (k l a b : ℕ) → length left ≡ 1 → length right ≡ 1 → k ≡ 0 → l ≡ 0 → a ≡ word left 0 →
    b ≡ word right 0 → side_entries nodes arguments left right k l ≡ below (nodes_from nodes arguments) (b ∷ []) 0 0 (a ∷ []) [] [] (1 ∷ [])
single_sides nodes arguments left right k l a b h g z w d e = rw (one_word left a h d, one_word right b g e, z, w) refl

-- The sections of an accepted table, and its numbers of labels.
pub record Parts (t nodes arguments left right : List ℕ) (k l : ℕ) : Type 0 where
  pub accepted : Accepted t
  pub nodes_are : nodes ≡ nodes_of t
  pub arguments_are : arguments ≡ arguments_of t
  pub left_is : left ≡ left_terms_of t
  pub right_is : right ≡ right_terms_of t
  pub left_labelled : k ≡ length (left_labels_of t)
  pub right_labelled : l ≡ length (right_labels_of t)

module _ {t nodes arguments left right : List ℕ} {k l : ℕ} (p : Parts t nodes arguments left right k l) where
  -- it can be listed by its sections
  pub parts_listable : Listable nodes arguments left right k l
  parts_listable =
      rw (p.nodes_are, p.arguments_are, p.left_is, p.right_is) (listable t p.accepted p.left_labelled p.right_labelled)

  -- its entries are the complete listing
  parts_entries : side_entries nodes arguments left right k l ≡ complete_listing (problem_of t)
  parts_entries =
      rw (p.nodes_are, p.arguments_are, p.left_is, p.right_is) (all_entries_lem t p.accepted p.left_labelled p.right_labelled)

  -- so that it is listed
  pub parts_listed : {lent lent' : List ℕ} {w : Told} → LeavesEntries (side_entries nodes arguments left right k l) lent w lent' →
      LeavesEntries (complete_listing (problem_of t)) lent w lent'
  parts_listed y = rw parts_entries at y

  -- also where they are two single terms without labels
  pub parts_single : {lent lent' : List ℕ} {w : Told} {a b : ℕ} → length left ≡ 1 → length right ≡ 1 → k ≡ 0 → l ≡ 0 → a ≡ word left 0 →
      b ≡ word right 0 →
      LeavesEntries (below (nodes_from nodes arguments) (b ∷ []) 0 0 (a ∷ []) [] [] (1 ∷ [])) lent w lent' →
      LeavesEntries (complete_listing (problem_of t)) lent w lent'
  parts_single {a = a} {b} h g z w d e y = parts_listed (rw (single_sides nodes arguments left right k l a b h g z w d e) y)

  -- there are at most 64 variables
  pub parts_few : length (variables_of (nodes_from nodes arguments)) ≤ 64
  unfolding variable_count
  parts_few =
      rw (p.nodes_are, p.arguments_are, ← nodes_of_sections t) (variables_most t ((accepted t).1 p.accepted))

-- the words of two sides show that no choice is admissible
module _ {nodes arguments left right : List ℕ} {k l : ℕ} (g : Listable nodes arguments left right k l) where
  -- terms are nodes, and few
  pub left_side : SideOf nodes left
  left_side = record { few = g.left_few; node = g.left_nodes }

  pub right_side : SideOf nodes right
  right_side = record { few = g.right_few; node = g.right_nodes }

  -- then there is no entry
  pub never_listed : NoneAdmissible (nodes_from nodes arguments) left right k l → (lent : List ℕ) →
      LeavesEntries (side_entries nodes arguments left right k l) lent (told_listing (Finished 0)) lent
  never_listed n lent =
      written_none (side_entries nodes arguments left right k l) lent
      (below_never (nodes_from nodes arguments) (sections_well_formed nodes arguments g.sections) left right
      (λ i h. is_node nodes arguments (word left i) (g.left_nodes i h)) (λ j h. is_node nodes arguments (word right j) (g.right_nodes j h)) k l n)

module _ (t lent lent' : List ℕ) (w : Told) where
  -- All that `list` promises.
  abbrev Promises : Type 0
  Promises = ListingPromised (problem_of t) (conditions t) lent lent' w

  -- a refused table
  pub refused_table : (r : Refusal) → number_of r ≡ refusal t → w ≡ told (Err r) → lent' ≡ lent → Promises
  unfolding refusal
  refused_table r n =
      refused_promised (problem_of t) (conditions t) lent lent' w (table_refusals t) (held_posed t) (number_of r) (number_above r) (sym n)

  -- an accepted one
  pub accepted_table : Accepted t → LeavesEntries (complete_listing (problem_of t)) lent w lent' → Promises
  accepted_table g =
      listed_promised (problem_of t) (conditions t) lent lent' w (table_refusals t) (held_posed t) ((none_held t).1 g)
