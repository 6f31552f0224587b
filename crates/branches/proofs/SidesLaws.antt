-- What is known where the sides are put: each part stands at its place, and the others stay.
-- By the places at which words are put. Assumes nothing.
use Prim.Native.Nat.{ℕ, ◌+◌, ◌-◌, ◌^◌, ◌≤◌, ◌<◌}
use mathlib.Core.List.{List, [], ◌∷◌, ◌++◌, append_assoc}
use mathlib.Core.Path.{◌≡◌, refl, sym, ap, ◌∙◌}
use native.Mathlib.Omega.{arith}
use lib.ListN.{length, take, drop, set, length-set, length-drop, length-append, get_or-append}
use lib.Pow.{pow_pos}
use lib.Seq.{length-take-le, take_at, drop_at, get_or-take, get_or-drop, get_or-append-add, get_or-set_same, get_or-set_other, sets-eq}
use Rattle.table.specs.Limits.{max_terms, max_labels}
use Rattle.table.specs.Layout.{word, node_count}
use Rattle.unification.specs.Node.{nodes_from}
use Rattle.unification.specs.Computed.Variables.{variables_of}
use Rattle.unification.specs.Code.Sections.{Sections}
use Rattle.nodes.specs.Code.Open.{Counts, OpenListed}
use Rattle.values.specs.Code.Present.{least_nodes}
use Rattle.branches.specs.Code.Known.{known_bytes, left_in, right_in, opens_in, list_in, SidesKnown, counted, put_at, PutSides}
use Rattle.branches.proofs.KnownLaws.{part_kept, counts_kept, opens_same_listed, left_word, right_word}

-- a word of a part
part_word : (known : List ℕ) (p n i : ℕ) → i < n → word (take n (drop p known)) i ≡ word known (p + i)
part_word known p n i h = get_or-take n (drop p known) i 0 h ∙ get_or-drop p known i 0

-- a part is the same where its words are, counted from its start
part_same : (known known' : List ℕ) (p n : ℕ) → length known' ≡ length known → ((i : ℕ) → i < n → word known' (p + i) ≡ word known (p + i)) →
    take n (drop p known') ≡ take n (drop p known)
part_same known known' p n e same =
    part_kept p n known known' e
    (λ k a b. let q : p + (k - p) ≡ k = omega (arith, a) in ap (word known') (sym q) ∙ same (k - p) (omega (arith, a, b)) ∙ ap (word known) q)

-- words are put at a place
module _ (p : ℕ) (words known : List ℕ) (room : p + length words ≤ length known) where
  -- The bytes with the words.
  abbrev after : List ℕ
  after = put_at p words known

  -- they end where they should
  head_long : length (take p known ++ words) ≡ p + length words
  head_long = omega (arith, length-append (take p known) words, length-take-le p known (omega (arith, room)))

  -- there are as many bytes
  put_long : length after ≡ length known
  put_long =
      let d = length-drop (p + length words) known in
      omega (arith, d, head_long, room, length-append (take p known ++ words) (drop (p + length words) known))

  -- those before the words stay
  put_before : (i : ℕ) → i < p → word after i ≡ word known i
  put_before i h =
      get_or-append (take p known ++ words) (drop (p + length words) known) 0 i (omega (arith, h, head_long))
      ∙ get_or-append (take p known) words 0 i (omega (arith, h, length-take-le p known (omega (arith, room))))
      ∙ get_or-take p known i 0 h

  -- those behind them stay
  put_behind : (i : ℕ) → p + length words ≤ i → word after i ≡ word known i
  put_behind i h =
      let n = i - (p + length words) in
      let e : i ≡ length (take p known ++ words) + n = omega (arith, h, head_long) in
      let f : p + length words + n ≡ i = omega (arith, h) in
      ap (word after) e ∙ get_or-append-add (take p known ++ words) (drop (p + length words) known) n 0
      ∙ get_or-drop (p + length words) known n 0
      ∙ ap (word known) f

  -- the words stand at their place
  put_here : take (length words) (drop p after) ≡ words
  put_here =
      let rest = drop (p + length words) known in
      ap (λ (r : List ℕ). take (length words) (drop p r)) (append_assoc (take p known) words rest)
      ∙ ap (take (length words)) (drop_at (take p known) (words ++ rest) p (length-take-le p known (omega (arith, room))))
      ∙ take_at words rest (length words) refl

  -- one by one
  put_word : (j : ℕ) → j < length words → word after (p + j) ≡ word words j
  put_word j h = sym (part_word after p (length words) j h) ∙ ap (λ (ws : List ℕ). word ws j) put_here

-- the sides are put
module _ {left right known known' : List ℕ} {k l v : ℕ} (size : length known ≡ known_bytes) (left_few : length left ≤ max_terms)
    (right_few : length right ≤ max_terms) (v-few : v ≤ 64) (p : PutSides left right k l v known known') where
  -- The numbers.
  abbrev numbers : List ℕ
  numbers = v ∷ length left ∷ length right ∷ k ∷ l ∷ (length left + length right + v) ∷ (2 ^ length right - 1) ∷ []

  -- The bytes with the numbers.
  abbrev numbered : List ℕ
  numbered = put_at 577 numbers known

  -- there is room for them
  number_room : 577 + length numbers ≤ length known
  number_room = omega (arith, size)

  -- The bytes with the left terms too.
  abbrev lefted : List ℕ
  lefted = put_at 584 left numbered

  -- there is room for them
  left_room : 584 + length left ≤ length numbered
  left_room = omega (arith, size, left_few, put_long 577 numbers known number_room)

  -- there is room for the right terms
  right_room : 592 + length right ≤ length lefted
  right_room = omega (arith, size, right_few, put_long 577 numbers known number_room, put_long 584 left numbered left_room)

  -- the parts are put one after the other
  parts : known' ≡ put_at 592 right lefted
  unfolding counted
  parts = p.is ∙ ap (λ (ks : List ℕ). put_at 592 right (put_at 584 left ks)) (sets-eq numbers known 577 number_room)

  -- there are as many bytes
  pub sides_long : length known' ≡ length known
  sides_long =
      ap length parts ∙ put_long 592 right lefted right_room ∙ put_long 584 left numbered left_room ∙ put_long 577 numbers known number_room

  -- before the sides only the numbers are put
  early : (i : ℕ) → i < 584 → word known' i ≡ word numbered i
  early i h =
      ap (λ (ks : List ℕ). word ks i) parts ∙ put_before 592 right lefted right_room i (omega (arith, h))
      ∙ put_before 584 left numbered left_room i h

  -- the bytes before the numbers stay
  pub sides_before : (i : ℕ) → i < 577 → word known' i ≡ word known i
  sides_before i h = early i (omega (arith, h)) ∙ put_before 577 numbers known number_room i h

  -- the numbers
  sides_number : (j : ℕ) → j < 7 → word known' (577 + j) ≡ word numbers j
  sides_number j h = early (577 + j) (omega (arith, h)) ∙ put_word 577 numbers known number_room j h

  -- the left terms
  sides_left : left_in known' ≡ left
  unfolding left_in
  sides_left =
      ap (λ (n : ℕ). take n (drop 584 known')) (sides_number 1 (omega arith))
      ∙ ap (λ (ks : List ℕ). take (length left) (drop 584 ks)) parts
      ∙ part_same lefted (put_at 592 right lefted) 584 (length left) (put_long 592 right lefted right_room)
      (λ i h. put_before 592 right lefted right_room (584 + i) (omega (arith, h, left_few)))
      ∙ put_here 584 left numbered left_room

  -- the right terms
  sides_right : right_in known' ≡ right
  unfolding right_in
  sides_right =
      ap (λ (n : ℕ). take n (drop 592 known')) (sides_number 2 (omega arith))
      ∙ ap (λ (ks : List ℕ). take (length right) (drop 592 ks)) parts
      ∙ put_here 592 right lefted right_room

-- the sides are put where the counts, the open applications, how many these are and the least nodes of the variables stand
module _ {nodes arguments known₀ known₁ left right known : List ℕ} {r k l v : ℕ} (s : Sections nodes arguments)
    (size : length known₀ ≡ known_bytes) (c : Counts nodes arguments known₀ (node_count nodes)) (few : r < 256)
    (o : OpenListed nodes known₀ (take r (drop 256 known₀))) (e : known₁ ≡ set known₀ 576 r)
    (is-list : take v (drop 512 known₀) ≡ least_nodes (nodes_from nodes arguments)) (v-few : v ≤ 64)
    (v-is : v ≡ length (variables_of (nodes_from nodes arguments))) (left_few : length left ≤ max_terms) (right_few : length right ≤ max_terms)
    (left_nodes : (j : ℕ) → j < length left → word left j < node_count nodes)
    (right_nodes : (j : ℕ) → j < length right → word right j < node_count nodes) (k-few : k ≤ max_labels) (l-few : l ≤ max_labels)
    (p : PutSides left right k l v known₁ known) where
  -- there are as many bytes
  noted_long : length known₁ ≡ known_bytes
  noted_long = ap length e ∙ length-set known₀ 576 r ∙ size

  -- A number of the sides.
  number : (j : ℕ) → j < 7 → word known (577 + j) ≡ word (numbers noted_long left_few right_few v-few p) j
  number = sides_number noted_long left_few right_few v-few p

  -- all before how many open applications there are stays
  early_same : (i : ℕ) → i < 576 → word known i ≡ word known₀ i
  early_same i h =
      sides_before noted_long left_few right_few v-few p i (omega (arith, h)) ∙ ap (λ (ks : List ℕ). word ks i) e
      ∙ get_or-set_other known₀ 576 i r 0 (λ z. omega (arith, z, h))

  -- at nodes as well
  node_same : (i : ℕ) → i < node_count nodes → word known i ≡ word known₀ i
  node_same i h = early_same i (omega (arith, h, s.limit))

  -- so does how many bytes there are
  sides_size : length known ≡ length known₀
  sides_size = sides_long noted_long left_few right_few v-few p ∙ noted_long ∙ sym size

  -- and how many open applications there are
  opens_number : word known 576 ≡ r
  opens_number =
      sides_before noted_long left_few right_few v-few p 576 (omega arith) ∙ ap (λ (ks : List ℕ). word ks 576) e
      ∙ get_or-set_same known₀ 576 r 0 (omega (arith, size))

  -- these stay
  opens_same : opens_in known ≡ take r (drop 256 known₀)
  unfolding opens_in
  opens_same =
      ap (λ (n : ℕ). take n (drop 256 known)) opens_number
      ∙ part_same known₀ known 256 r sides_size (λ i h. early_same (256 + i) (omega (arith, h, few)))

  -- and so do the least nodes of the variables
  list_same : list_in known ≡ take v (drop 512 known₀)
  unfolding list_in
  list_same =
      ap (λ (n : ℕ). take n (drop 512 known)) (number 0 (omega arith))
      ∙ part_same known₀ known 512 v sides_size (λ i h. early_same (512 + i) (omega (arith, h, v-few)))

  -- all of it is known then
  pub known_sides : SidesKnown nodes arguments left right k l known
  known_sides =
      record {
        knows = record {
          sections = s;
          size = sides_size ∙ size;
          counts = counts_kept node_same (omega (arith, s.limit, sides_size, size)) c;
          opens_few = omega (arith, opens_number, few);
          opens = rw opens_same (opens_same_listed node_same o);
          list_few = omega (arith, number 0 (omega arith), v-few);
          list = list_same ∙ is-list;
          left_few = omega (arith, number 1 (omega arith), left_few);
          right_few = omega (arith, number 2 (omega arith), right_few);
          left_nodes = λ j h. rw (sym (left_word known j h) ∙ ap (λ (ws : List ℕ). word ws j) is_left)
              (left_nodes j (omega (arith, h, number 1 (omega arith))));
          right_nodes = λ j h. rw (sym (right_word known j h) ∙ ap (λ (ws : List ℕ). word ws j) is_right)
              (right_nodes j (omega (arith, h, number 2 (omega arith))));
          left_labels_lem = omega (arith, number 3 (omega arith), k-few);
          right_labels_lem = omega (arith, number 4 (omega arith), l-few);
          width = omega (arith, number 5 (omega arith), number 1 (omega arith), number 2 (omega arith), number 0 (omega arith));
          every = whole (number 6 (omega arith)) ∙ ap (λ (x : ℕ). 2 ^ x) (sym (number 2 (omega arith)));
        };
        left_is = is_left;
        right_is = is_right;
        left_labelled = number 3 (omega arith);
        right_labelled = number 4 (omega arith);
        width_is = number 5 (omega arith) ∙ ap (λ (n : ℕ). length left + length right + n) v-is;
      }
    where
      is_left : left_in known ≡ left
      is_left = sides_left noted_long left_few right_few v-few p

      is_right : right_in known ≡ right
      is_right = sides_right noted_long left_few right_few v-few p

      whole : word known 583 ≡ 2 ^ length right - 1 → word known 583 + 1 ≡ 2 ^ length right
      whole z = omega (arith, z, pow_pos (length right))
