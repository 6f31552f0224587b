-- Joins that can be undone: what one comes to, and that there is one way back. Assumes nothing.
use Prim.Native.Nat.{ℕ, suc, ◌+◌, ◌-◌, ◌<◌, ◌≤◌}
use mathlib.Core.List.{List, map}
use mathlib.Core.Path.{◌≡◌, refl, sym, ap, ◌∙◌, subst, subst₂}
use native.Mathlib.Decide.{ℕ_discrete}
use native.Mathlib.Omega.{arith}
use lib.ListN.{length, set, length-set, length-map}
use lib.Seq.{get_or-set_same, get_or-set_other, set-get_or, set-set, set_comm, ext_get_or}
use Rattle.table.specs.Layout.{word}
use Rattle.unification.specs.Computed.Classes.{class_of, renamed, join}
use Rattle.unification.specs.Code.Heads.{roots}
use Rattle.unification.proofs.ListLaws.{map_at}
use Rattle.unification.proofs.CountLaws.{renamed_here, renamed_other, in_list, join_keeps, join_lowers, roots_some}
use Rattle.nodes.specs.Code.Circle.{Follows, here, onward, Circles}
use Rattle.nodes.specs.Code.Uniting.{Circling, Relabels, TwoHeads, exchanged}
use Rattle.nodes.specs.Code.Trail.{links, gone, noted_gone, Trailed, Merged, OneMerged, Merges, none, more, Last, ComesFrom, Since}
use Rattle.nodes.proofs.CircleLaws.{step_on, circling, exchange, exchanged_long, circles_linked}

-- a note leaves as many words
noted_long : (m : List ℕ) (g : ℕ) → length (noted_gone m g) ≡ length m
unfolding noted_gone
noted_long m g = length-set (set m 256 (suc (gone m))) (256 + suc (gone m)) g ∙ length-set m 256 (suc (gone m))

-- and the other words
noted_other : (m : List ℕ) (g k : ℕ) → (k ≡ 256 → ⊥) → (k ≡ 256 + suc (gone m) → ⊥) → word (noted_gone m g) k ≡ word m k
unfolding noted_gone
noted_other m g k d e =
    get_or-set_other (set m 256 (suc (gone m))) (256 + suc (gone m)) k g 0 e ∙ get_or-set_other m 256 k (suc (gone m)) 0 d

module _ (m : List ℕ) (g : ℕ) (size : length m ≡ links) where
  -- one more head has gone
  noted_more : gone (noted_gone m g) ≡ suc (gone m)
  unfolding noted_gone
  noted_more =
      get_or-set_other (set m 256 (suc (gone m))) (256 + suc (gone m)) 256 g 0 (λ z. omega (arith, z))
      ∙ get_or-set_same m 256 (suc (gone m)) 0 (omega (arith, size))

  -- and it is the one noted
  noted_last : gone m < 255 → word (noted_gone m g) (256 + suc (gone m)) ≡ g
  unfolding noted_gone
  noted_last l =
      let k = length-set m 256 (suc (gone m)) in
      get_or-set_same (set m 256 (suc (gone m))) (256 + suc (gone m)) g 0 (omega (arith, size, k, l))

  -- a note taken back
  noted_back : word m (256 + suc (gone m)) ≡ 0 → set (set (noted_gone m g) (256 + suc (gone m)) 0) 256 (gone m) ≡ m
  unfolding noted_gone
  noted_back e =
      ap (λ (l : List ℕ). set l 256 (gone m)) (set-set (set m 256 (suc (gone m))) (256 + suc (gone m)) g 0)
      ∙ set_comm (set m 256 (suc (gone m))) (256 + suc (gone m)) 256 0 (gone m) (λ z. omega (arith, z))
      ∙ ap (λ (l : List ℕ). set l (256 + suc (gone m)) 0) (set-set m 256 (suc (gone m)) (gone m) ∙ set-get_or m 256 0)
      ∙ ap (set m (256 + suc (gone m))) (sym e)
      ∙ set-get_or m (256 + suc (gone m)) 0

module _ (n : ℕ) (next next' : List ℕ) (below : (i : ℕ) → i < n → word next i < n) (same : (i : ℕ) → i < n → word next' i ≡ word next i) where
  -- where the words at nodes are the same, what followed on a node follows
  follows_same : {i j : ℕ} → Follows next i j → i < n → Follows next' i j
  follows_same here l = here
  follows_same (onward {i} {j} f) l = step_on i (same i l) (follows_same f (below i l))

-- and circles are circles
circles_same : {n : ℕ} {heads : List ℕ} (next next' : List ℕ) → n ≤ length next' → ((i : ℕ) → i < n → word next' i ≡ word next i) →
    Circles n heads next → Circles n heads next'
circles_same {n = n} {heads = heads} next next' s w c =
    record {
      size = s;
      below = λ i l. rw (w i l) (c.below i l);
      same = λ i l. rw (w i l) (c.same i l);
      around = λ i j l k e. follows_same n next next' c.below w (c.around i j l k e) l;
    }

-- what follows on a node is of its class
follows_class : {n : ℕ} {heads next : List ℕ} → Circles n heads next → {i j : ℕ} → i < n → Follows next i j → class_of heads j ≡ class_of heads i
follows_class c l here = refl
follows_class c l (onward {i} {j} f) = follows_class c (c.below i l) f ∙ c.same i l

module _ (n : ℕ) (heads next : List ℕ) (g h : ℕ) (t : TwoHeads n heads next g h) where
  -- exchanged twice
  exchanged_back : exchanged (exchanged next g h) g h ≡ next
  unfolding exchanged
  exchanged_back =
      let a : word (exchanged next g h) g ≡ word next h = (exchange n heads next g h t).first in
      let b : word (exchanged next g h) h ≡ word next g = (exchange n heads next g h t).second in
      ap (λ (x : ℕ). set (set (exchanged next g h) g x) h (word (exchanged next g h) g)) b
      ∙ ap (set (set (exchanged next g h) g (word next g)) h) a
      ∙ ap (λ (l : List ℕ). set l h (word next h)) (set_comm (set next g (word next h)) h g (word next g) (word next g) (λ z. t.apart (sym z)))
      ∙ set-set (set (set next g (word next h)) g (word next g)) h (word next g) (word next h)
      ∙ ap (λ (l : List ℕ). set l h (word next h)) (set-set next g (word next h) (word next g) ∙ set-get_or next g 0)
      ∙ set-get_or next h 0

  -- the class of a node after
  class_after : (k : ℕ) → k < n → class_of (map (renamed g h) heads) k ≡ renamed g h (class_of heads k)
  class_after k l = map_at (renamed g h) heads k (in_list t.partition k l)

  -- there are as many
  map_long : length (map (renamed g h) heads) ≡ n
  map_long = length-map heads (renamed g h) ∙ t.partition.size

  -- a node of the class of g follows on it
  follows_first : (k : ℕ) → k < n → class_of heads k ≡ g → Follows next g k
  follows_first k l e = t.circles.around g k t.first l (t.first_own ∙ sym e)

  -- and no other
  first_follows : (k : ℕ) → Follows next g k → class_of heads k ≡ g
  first_follows k f = follows_class t.circles t.first f ∙ t.first_own

  -- the circle of g gets head h: its class is renamed
  pub relabels_renames : (heads' : List ℕ) → Relabels next g h heads heads' → heads' ≡ map (renamed g h) heads
  relabels_renames heads' r = ext_get_or 0 heads' (map (renamed g h) heads) (size ∙ sym map_long) (λ k l. at k (rw size at l))
    where
      size : length heads' ≡ n
      size = r.size ∙ t.partition.size

      at : (k : ℕ) → k < n → class_of heads' k ≡ class_of (map (renamed g h) heads) k
      at k l = go (ℕ_discrete (class_of heads k) g)
        where
          go : Dec (class_of heads k ≡ g) → class_of heads' k ≡ class_of (map (renamed g h) heads) k
          go (yes z) = r.circle k (follows_first k l z) ∙ sym (class_after k l ∙ renamed_here g h (class_of heads k) z)
          go (no z) = r.others k (λ f. z (first_follows k f)) ∙ sym (class_after k l ∙ renamed_other g h (class_of heads k) z)

  -- classes that have head g in its circle, and are as after the renaming elsewhere, are those before
  classes_back : (ds : List ℕ) → length ds ≡ n → ((k : ℕ) → k < n → Follows next g k → class_of ds k ≡ g) →
      ((k : ℕ) → k < n → (Follows next g k → ⊥) → class_of ds k ≡ class_of (map (renamed g h) heads) k) → ds ≡ heads
  classes_back ds size u v = ext_get_or 0 ds heads (size ∙ sym t.partition.size) (λ k l. at k (rw size at l))
    where
      at : (k : ℕ) → k < n → class_of ds k ≡ class_of heads k
      at k l = go (ℕ_discrete (class_of heads k) g)
        where
          go : Dec (class_of heads k ≡ g) → class_of ds k ≡ class_of heads k
          go (yes z) = u k l (follows_first k l z) ∙ sym z
          go (no z) = v k l (λ f. z (first_follows k f)) ∙ class_after k l ∙ renamed_other g h (class_of heads k) z

  -- joining the heads is the renaming
  joined_heads : join heads (h, g) ≡ map (renamed g h) heads
  unfolding join
  joined_heads =
      ap (λ (x : ℕ). map (renamed x (class_of heads h)) heads) t.first_own ∙ ap (λ (x : ℕ). map (renamed g x) heads) t.second_own

  -- it leaves fewer classes
  fewer_classes : roots n (map (renamed g h) heads) < roots n heads
  fewer_classes =
      subst (λ (x : List ℕ). roots n x < roots n heads) joined_heads
      (join_lowers n heads h g t.second t.first t.partition (λ e. t.apart (sym t.first_own ∙ sym e ∙ t.second_own)))

  -- but some
  some_class : 0 < roots n (map (renamed g h) heads)
  some_class =
      subst (λ (x : List ℕ). 0 < roots n x) joined_heads
      (roots_some n (join heads (h, g)) (join_keeps n heads h g t.second t.first t.partition) g t.first)

  module _ (r : Trailed n heads next) where
    -- there is room for a note
    note_room : gone next < 255
    note_room =
        let a = fewer_classes in
        let b = some_class in
        let c = r.room in
        omega (arith, a, b, c)

    -- words behind the nodes stay
    behind_same : (k : ℕ) → n ≤ k → word (exchanged next g h) k ≡ word next k
    behind_same k l =
        let p = t.first in
        let q = t.second in
        (exchange n heads next g h t).other k (λ z. omega (arith, z, p, l)) (λ z. omega (arith, z, q, l))

    -- as many heads have gone
    gone_same : gone (exchanged next g h) ≡ gone next
    gone_same = behind_same 256 r.few

    -- there are as many words
    linked_long : length (exchanged next g h) ≡ links
    linked_long = exchanged_long n heads next g h t ∙ r.size

    -- so the head that goes can be noted
    pub note_ready : (next₁ : List ℕ) → next₁ ≡ exchanged next g h → (length next₁ ≡ links) × (gone next₁ < 255)
    note_ready next₁ e =
        let a : gone next₁ ≡ gone next = ap gone e ∙ gone_same in
        let b = note_room in
        (ap length e ∙ linked_long, omega (arith, a, b))

    -- with the note too
    after_long : length (noted_gone (exchanged next g h) g) ≡ links
    after_long = noted_long (exchanged next g h) g ∙ linked_long

    -- one more head has gone
    after_gone : gone (noted_gone (exchanged next g h) g) ≡ suc (gone next)
    after_gone = noted_more (exchanged next g h) g linked_long ∙ ap suc gone_same

    -- the nodes have the ones after them as before the note
    after_node : (i : ℕ) → i < n → word (noted_gone (exchanged next g h) g) i ≡ word (exchanged next g h) i
    after_node i l =
        let a = r.few in
        noted_other (exchanged next g h) g i (λ z. omega (arith, z, a, l)) (λ z. omega (arith, z, a, l))

    -- nothing stands behind the note
    after_clear : (k : ℕ) → 256 + suc (gone next) < k → word (noted_gone (exchanged next g h) g) k ≡ 0
    after_clear k l =
        let a = r.few in
        let e = gone_same in
        noted_other (exchanged next g h) g k (λ z. omega (arith, z, l)) (λ z. omega (arith, z, l, e))
        ∙ behind_same k (omega (arith, a, l))
        ∙ r.clear k (omega (arith, l))

    -- so more can be merged
    trailed_after : Trailed n (map (renamed g h) heads) (noted_gone (exchanged next g h) g)
    trailed_after =
        let a = r.few in
        let b = r.room in
        let d = after_long in
        let e = after_gone in
        let f = fewer_classes in
        record {
          circles =
              circles_same (exchanged next g h) (noted_gone (exchanged next g h) g) (omega (arith, a, d)) after_node
              (circles_linked n heads next g h t);
          few = a;
          size = d;
          room = omega (arith, b, e, f);
          clear = λ k l. after_clear k (omega (arith, l, e));
        }

-- classes that are merged can be merged on
merged_trailed : {n : ℕ} {heads next : List ℕ} {g h : ℕ} {heads' next' : List ℕ} → Merged n heads next g h heads' next' → Trailed n heads' next'
merged_trailed {n = n} {heads = heads} {next = next} {g = g} {h = h} m =
    subst₂ (Trailed n) (sym m.renames) (sym m.linked) (trailed_after n heads next g h m.two m.trailed)

-- one merged after none
pub one_merged : {n : ℕ} {heads next : List ℕ} {g h : ℕ} {heads' next' : List ℕ} → Merged n heads next g h heads' next' →
    Merges n heads next heads' next'
one_merged {g = g} {h = h} m = more none (g, h, m)

-- some merged, and then others
pub merges_on : {n : ℕ} {heads next heads₁ next₁ heads₂ next₂ : List ℕ} → Merges n heads next heads₁ next₁ → Merges n heads₁ next₁ heads₂ next₂ →
    Merges n heads next heads₂ next₂
merges_on m none = m
merges_on m (more l o) = more (merges_on m l) o

-- after that more can be merged
pub merges_trailed : {n : ℕ} {heads next heads' next' : List ℕ} → Trailed n heads next → Merges n heads next heads' next' → Trailed n heads' next'
merges_trailed t none = t
merges_trailed t (more m o) = merged_trailed o.2

-- and what was merged can be undone
undoable : {n mark : ℕ} {heads next heads' next' : List ℕ} → mark ≡ gone next → Merges n heads next heads' next' → Since n mark heads' next'
undoable {heads = heads} {next = next} e m = record { heads = heads; next = next; before = record { merges = m; marked = sym e } }

module _ (n : ℕ) (heads next : List ℕ) (g h : ℕ) (heads' next' : List ℕ) (m : Merged n heads next g h heads' next') where
  -- one more head has gone
  merged_gone : gone next' ≡ suc (gone next)
  merged_gone = ap gone m.linked ∙ after_gone n heads next g h m.two m.trailed

  -- the last noted is the one that went
  merged_from : (k : ℕ) → k + 1 ≡ gone next' → word next' (257 + k) ≡ g
  merged_from k e =
      let s = gone_same n heads next g h m.two m.trailed in
      let l = note_room n heads next g h m.two m.trailed in
      let a = merged_gone in
      let d : 257 + k ≡ 256 + suc (gone (exchanged next g h)) = omega (arith, a, e, s) in
      ap (word next') d
      ∙ ap (λ (x : List ℕ). word x (256 + suc (gone (exchanged next g h)))) m.linked
      ∙ noted_last (exchanged next g h) g (linked_long n heads next g h m.two m.trailed) (omega (arith, s, l))

  -- its head is the one that it is merged with
  merged_to : class_of heads' g ≡ h
  merged_to =
      ap (λ (x : List ℕ). class_of x g) m.renames
      ∙ class_after n heads next g h m.two g m.two.first
      ∙ renamed_here g h (class_of heads g) m.two.first_own

  -- the note taken back
  merged_unnoted : (k : ℕ) → k + 1 ≡ gone next' → set (set next' (257 + k) 0) 256 k ≡ exchanged next g h
  merged_unnoted k e =
      let s = gone_same n heads next g h m.two m.trailed in
      let a = merged_gone in
      let d : 257 + k ≡ 256 + suc (gone (exchanged next g h)) = omega (arith, a, e, s) in
      let p : k ≡ gone (exchanged next g h) = omega (arith, a, e, s) in
      let q = m.trailed.few in
      let z : word (exchanged next g h) (256 + suc (gone (exchanged next g h))) ≡ 0 =
      behind_same n heads next g h m.two m.trailed (256 + suc (gone (exchanged next g h))) (omega (arith, q))
      ∙ m.trailed.clear (256 + suc (gone (exchanged next g h))) (omega (arith, s)) in
      ap (λ (x : ℕ). set (set next' x 0) 256 k) d
      ∙ ap (set (set next' (256 + suc (gone (exchanged next g h))) 0) 256) p
      ∙ ap (λ (x : List ℕ). set (set x (256 + suc (gone (exchanged next g h))) 0) 256 (gone (exchanged next g h))) m.linked
      ∙ noted_back (exchanged next g h) g (linked_long n heads next g h m.two m.trailed) z

-- The node that went last, where k had gone before it.
abbrev went : List ℕ → ℕ → ℕ
went next' k = word next' (257 + k)

-- The circles without the last note.
abbrev unnoted : List ℕ → ℕ → List ℕ
unnoted next' k = set (set next' (257 + k) 0) 256 k

-- The circles before the last head went.
abbrev unlinked : List ℕ → List ℕ → ℕ → List ℕ
unlinked heads' next' k = exchanged (unnoted next' k) (went next' k) (class_of heads' (went next' k))

module _ (n : ℕ) (heads next : List ℕ) (g h : ℕ) (heads' next' : List ℕ) (m : Merged n heads next g h heads' next') (k : ℕ) (e : k + 1 ≡ gone next') where
  -- the class of the node that went
  went_class : class_of heads' (went next' k) ≡ h
  went_class = ap (class_of heads') (merged_from n heads next g h heads' next' m k e) ∙ merged_to n heads next g h heads' next' m

  -- the circles before are had from those after
  next_back : unlinked heads' next' k ≡ next
  next_back =
      ap (λ (x : List ℕ). exchanged x (went next' k) (class_of heads' (went next' k))) (merged_unnoted n heads next g h heads' next' m k e)
      ∙ ap (λ (x : ℕ). exchanged (exchanged next g h) x (class_of heads' (went next' k))) (merged_from n heads next g h heads' next' m k e)
      ∙ ap (exchanged (exchanged next g h) g) went_class
      ∙ exchanged_back n heads next g h m.two

  -- what does not follow on the node that went keeps its class
  other_back : (i : ℕ) → i < n → (Follows next g i → ⊥) → class_of heads i ≡ class_of heads' i
  other_back i l f =
      sym
      (ap (λ (x : List ℕ). class_of x i) m.renames
      ∙ class_after n heads next g h m.two i l
      ∙ renamed_other g h (class_of heads i) (λ z. f (follows_first n heads next g h m.two i l z)))

-- the classes before the last head went, and their circles, are told by those after
one_way_back : {n : ℕ} {heads next heads₁ next₁ heads' next' : List ℕ} → OneMerged n heads next heads' next' →
    OneMerged n heads₁ next₁ heads' next' → (heads₁ ≡ heads) × (next₁ ≡ next)
one_way_back {n = n} {heads = heads} {next = next} {heads₁ = heads₁} {next₁ = next₁} {heads' = heads'} {next' = next'} (g, h, m) (g₁, h₁, m₁) = (
  classes_back n heads next g h m.two heads₁ m₁.two.partition.size
      (λ k l f. first_follows n heads₁ next₁ g₁ h₁ m₁.two k (over f) ∙ sym g≡)
      (λ k l f. other_back n heads₁ next₁ g₁ h₁ heads' next' m₁ (gone next) before k l (λ d. f (back d)) ∙
      ap (λ (x : List ℕ). class_of x k) m.renames),
  n≡,
)
  where
    before : gone next + 1 ≡ gone next'
    before =
        let a = merged_gone n heads next g h heads' next' m in
        omega (arith, a)

    g≡ : g ≡ g₁
    g≡ = sym (merged_from n heads next g h heads' next' m (gone next) before) ∙ merged_from n heads₁ next₁ g₁ h₁ heads' next' m₁ (gone next) before

    n≡ : next₁ ≡ next
    n≡ = sym (next_back n heads₁ next₁ g₁ h₁ heads' next' m₁ (gone next) before) ∙ next_back n heads next g h heads' next' m (gone next) before

    over : {k : ℕ} → Follows next g k → Follows next₁ g₁ k
    over {k} f = subst₂ (λ (x : List ℕ) (y : ℕ). Follows x y k) (sym n≡) g≡ f

    back : {k : ℕ} → Follows next₁ g₁ k → Follows next g k
    back {k} f = subst₂ (λ (x : List ℕ) (y : ℕ). Follows x y k) n≡ (sym g≡) f

-- one more head has gone
one_gone : {n : ℕ} {heads next heads' next' : List ℕ} → OneMerged n heads next heads' next' → gone next' ≡ suc (gone next)
one_gone {n = n} {heads = heads} {next = next} {heads' = heads'} {next' = next'} o =
    merged_gone n heads next o.0 o.1 heads' next' o.2

-- no fewer heads have gone
merges_gone : {n : ℕ} {heads next heads' next' : List ℕ} → Merges n heads next heads' next' → gone next ≤ gone next'
merges_gone none = omega arith
merges_gone {next = next} (more {next₁ = next₁} {next₂ = next₂} m o) =
    let a : gone next ≤ gone next₁ = merges_gone m in
    let b : gone next₂ ≡ suc (gone next₁) = one_gone o in
    omega (arith, a, b)

-- where some are merged more have gone
not_merged : {n : ℕ} {heads next heads₁ next₁ heads' next' : List ℕ} → Merges n heads next heads₁ next₁ → OneMerged n heads₁ next₁ heads' next' →
    gone next ≡ gone next' → ⊥
not_merged {next = next} {next₁ = next₁} {next' = next'} m o e =
    let a : gone next ≤ gone next₁ = merges_gone m in
    let b : gone next' ≡ suc (gone next₁) = one_gone o in
    omega (arith, a, b, e)

-- there is one way back to where so many had gone
ways_back : {n : ℕ} {heads next heads₁ next₁ heads' next' : List ℕ} → gone next₁ ≡ gone next → Merges n heads next heads' next' →
    Merges n heads₁ next₁ heads' next' → (heads₁ ≡ heads) × (next₁ ≡ next)
ways_back e none none = (refl, refl)
ways_back e none (more m o) = absurd (not_merged m o e)
ways_back e (more m o) none = absurd (not_merged m o (sym e))
ways_back {n = n} {heads₁ = heads₁} {next₁ = next₁} e (more l o) (more m p) =
    let r = one_way_back o p in
    ways_back e l (subst₂ (Merges n heads₁ next₁) r.0 r.1 m)

-- what is undone is as it was
pub undone_same : {n mark : ℕ} {heads next heads₁ next₁ heads' next' : List ℕ} → mark ≡ gone next → Merges n heads next heads' next' →
    ComesFrom n mark heads₁ next₁ heads' next' → (heads₁ ≡ heads) × (next₁ ≡ next)
undone_same e m b = ways_back (b.marked ∙ e) m b.merges

-- what undoing joins asks
pub merges_since : {n : ℕ} {heads next heads' next' : List ℕ} → Trailed n heads next → length heads' ≡ n → Merges n heads next heads' next' →
    Since (length heads') (gone next) heads' next' × (length next' ≡ links)
merges_since t e m = (rw e (undoable refl m), (merges_trailed t m).size)

-- and what it comes to: the classes before them
pub merges_back : {n : ℕ} {heads next heads₁ next₁ heads' next' : List ℕ} → length heads' ≡ n → Merges n heads next heads' next' →
    ComesFrom (length heads') (gone next) heads₁ next₁ heads' next' → (heads₁ ≡ heads) × (next₁ ≡ next)
merges_back e m b = undone_same refl m (rw e at b)

module _ (n : ℕ) (heads' next' : List ℕ) (l : Last n heads' next') (k : ℕ) (e : k + 1 ≡ gone next') where
  -- the last head that has gone is noted
  pub last_inside : 257 + k < length next'
  last_inside =
      let m = l.merged.2 in
      let a : gone next' ≡ suc (gone l.next) = one_gone l.merged in
      let b = note_room n l.heads l.next l.merged.0 l.merged.1 m.two m.trailed in
      let c = (merged_trailed m).size in
      omega (arith, a, b, c, e)

  -- it is the one that went
  last_from : went next' k ≡ l.merged.0
  last_from = merged_from n l.heads l.next l.merged.0 l.merged.1 heads' next' l.merged.2 k e

  -- and its head the other
  last_to : class_of heads' (went next' k) ≡ l.merged.1
  last_to = went_class n l.heads l.next l.merged.0 l.merged.1 heads' next' l.merged.2 k e

  -- the circles are those before
  last_next : unlinked heads' next' k ≡ l.next
  last_next = next_back n l.heads l.next l.merged.0 l.merged.1 heads' next' l.merged.2 k e

  -- the two are nodes
  pub last_nodes : (went next' k < n) × (class_of heads' (went next' k) < n)
  last_nodes = (rw last_from l.merged.2.two.first, rw last_to l.merged.2.two.second)

  -- nodes have words
  pub last_size : n ≤ length (unnoted next' k)
  last_size =
      let a = (merged_trailed l.merged.2).size in
      let b = (merged_trailed l.merged.2).few in
      let c = length-set next' (257 + k) 0 in
      let d = length-set (set next' (257 + k) 0) 256 k in
      omega (arith, a, b, c, d)

  -- the one that went can be come back to
  pub last_circling : Circling n (unlinked heads' next' k) (went next' k)
  last_circling = subst₂ (Circling n) (sym last_next) (sym last_from) (circling l.merged.2.two)

  -- the one after it stands at the other
  pub last_first : word (unnoted next' k) (class_of heads' (went next' k)) ≡ word (unlinked heads' next' k) (went next' k)
  last_first =
      let m = l.merged.2 in
      subst₂ (λ (x y : List ℕ). word x (class_of heads' (went next' k)) ≡ word y (went next' k))
      (sym (merged_unnoted n l.heads l.next l.merged.0 l.merged.1 heads' next' m k e)) (sym last_next)
      (ap (word (exchanged l.next l.merged.0 l.merged.1)) last_to
      ∙ (exchange n l.heads l.next l.merged.0 l.merged.1 m.two).second
      ∙ ap (word l.next) (sym last_from))

  -- its circle gets its head again: the classes are those before
  pub last_undone : (heads : List ℕ) → Relabels (unlinked heads' next' k) (went next' k) (went next' k) heads' heads →
      OneMerged n heads (unlinked heads' next' k) heads' next'
  last_undone heads r =
      let m = l.merged.2 in
      (l.merged.0, l.merged.1, subst₂ (λ (x y : List ℕ). Merged n x y l.merged.0 l.merged.1 heads' next') (sym same) (sym last_next) m)
    where
      over : (i : ℕ) → Follows l.next l.merged.0 i → Follows (unlinked heads' next' k) (went next' k) i
      over i f = subst₂ (λ (x : List ℕ) (y : ℕ). Follows x y i) (sym last_next) (sym last_from) f

      back : (i : ℕ) → Follows (unlinked heads' next' k) (went next' k) i → Follows l.next l.merged.0 i
      back i f = subst₂ (λ (x : List ℕ) (y : ℕ). Follows x y i) last_next last_from f

      same : heads ≡ l.heads
      same =
          classes_back n l.heads l.next l.merged.0 l.merged.1 l.merged.2.two heads
          (r.size ∙ ap length l.merged.2.renames ∙ map_long n l.heads l.next l.merged.0 l.merged.1 l.merged.2.two)
          (λ i z f. r.circle i (over i f) ∙ last_from)
          (λ i z f. r.others i (λ d. f (back i d)) ∙ ap (λ (x : List ℕ). class_of x i) l.merged.2.renames)

-- more have gone than at a mark: there is a last one
since_last : {n mark : ℕ} {heads' next' : List ℕ} → Since n mark heads' next' → (gone next' ≡ mark → ⊥) → Last n heads' next'
since_last {n = n} {mark = mark} {heads' = heads'} {next' = next'} s d = go s.before.merges s.before.marked d
  where
    go : {heads next ds nextd : List ℕ} → Merges n heads next ds nextd → gone next ≡ mark → (gone nextd ≡ mark → ⊥) → Last n ds nextd
    go none e f = absurd (f e)
    go (more {heads₁} {next₁} m o) e f = record { heads = heads₁; next = next₁; merged = o }

-- where one is undone the others can still be
since_back : {n mark : ℕ} {heads next heads' next' : List ℕ} → Since n mark heads' next' → (gone next' ≡ mark → ⊥) →
    OneMerged n heads next heads' next' → Since n mark heads next
since_back {n = n} {mark = mark} {heads = heads} {next = next} s d o = go s.before.merges s.before.marked d o
  where
    go : {heads₀ next₀ ds nextd : List ℕ} → Merges n heads₀ next₀ ds nextd → gone next₀ ≡ mark → (gone nextd ≡ mark → ⊥) →
        OneMerged n heads next ds nextd → Since n mark heads next
    go none e f p = absurd (f e)
    go {heads₀} {next₀} (more m q) e f p =
        let r = one_way_back p q in
        undoable (sym e) (subst₂ (Merges n heads₀ next₀) r.0 r.1 m)

-- Joins are undone until only as many heads have gone as at the mark: k are left.
pub record Undoing (n mark k : ℕ) (heads next heads₀ next₀ : List ℕ) : Type 0 where
  pub size : length heads ≡ n
  pub long : length next ≡ length next₀
  pub count : k ≡ gone next
  pub since : Since n mark heads next
  pub merges : Merges n heads next heads₀ next₀

-- none is undone yet
pub undoing_none : (mark : ℕ) (heads next : List ℕ) → Since (length heads) mark heads next →
    Undoing (length heads) mark (gone next) heads next heads next
undoing_none mark heads next s = record { size = refl; long = refl; count = refl; since = s; merges = none }

module _ {n mark k : ℕ} {heads next heads₀ next₀ : List ℕ} (u : Undoing n mark k heads next heads₀ next₀) where
  -- all are
  pub undoing_done : k ≤ mark → ComesFrom n mark heads next heads₀ next₀
  undoing_done l =
      let a = merges_gone u.since.before.merges in
      let b = u.since.before.marked in
      let c = u.count in
      record { merges = u.merges; marked = omega (arith, a, b, c, l) }

  module _ (d : mark < k) where
    -- the last one is still to be
    still : gone next ≡ mark → ⊥
    still z = let c = u.count in omega (arith, c, d, z)

    -- it can be undone
    pub undoing_last : Last (length heads) heads next × (k - 1 + 1 ≡ gone next)
    undoing_last = let c = u.count in (rw u.size (since_last u.since still), omega (arith, c, d))

    -- it is
    pub undoing_on : {heads₁ next₁ : List ℕ} → OneMerged (length heads) heads₁ next₁ heads next → Undoing n mark (k - 1) heads₁ next₁ heads₀ next₀
    undoing_on {heads₁} {next₁} o =
        let p : OneMerged n heads₁ next₁ heads next = rw u.size at o in
        let a : gone next ≡ suc (gone next₁) = one_gone p in
        let b = u.count in
        let m = p.2 in
        record {
          size = m.two.partition.size;
          long = m.trailed.size ∙ sym (merged_trailed m).size ∙ u.long;
          count = omega (arith, a, b);
          since = since_back u.since still p;
          merges = merges_on (one_merged m) u.merges;
        }
