-- What the rotations leave, over lists. Assumes nothing.
use Rattle.std.proofs.Common.{◌≡◌, ℕ, suc, ◌+◌, ◌-◌, ◌<◌, ◌≤◌, List, [], ◌∷◌, ◌++◌, length, get_or, take, drop, set, sym, ap, ◌∙◌, append_assoc, arith, length-append, length-drop, length-take, drop-set-lt}
use lib.Seq.{take-set-lt}
use borrow.Rule.Slice.PartMut.{put_mid}
use Rattle.std.specs.List.{insert, remove}
use Rattle.std.proofs.lemmas.List.{drop_more, drop_all, take-take, take_at, drop-drop, take-append-drop}
use Rattle.std.proofs.lemmas.Slice.{take-put_mid, drop-put_mid, between_is}

module _ {X : Type 0} where
  pub shifted_in : (xs ys : List X) (row : X) → 0 < length xs → ys ≡ drop (length xs - 1) xs ++ take (length xs - 1) xs → set ys 0 row ≡ row ∷ take (length xs - 1) xs
  shifted_in [] ys row l e = absurd (omega arith)
  shifted_in (x ∷ xs) ys row l e =
      let n = length (x ∷ xs) - 1 in
      let one : drop n (x ∷ xs) ≡ get_or (x ∷ xs) n x ∷ [] = drop_more (x ∷ xs) n x (omega arith) ∙ ap (λ l. get_or (x ∷ xs) n x ∷ l) (drop_all (n + 1) (x ∷ xs) (omega arith)) in
      let all : ys ≡ (get_or (x ∷ xs) n x ∷ []) ++ take n (x ∷ xs) = e ∙ ap (λ l. l ++ take n (x ∷ xs)) one in
      rw all

  -- the places i to len, one more than the rows, with the row first and the rows after it
  pub opened : (rows : List X) (i len : ℕ) (row : X) (part new : List X) → i ≤ len → len < length rows → part ≡ take (len + 1 - i) (drop i rows) → new ≡ row ∷ take (length part - 1) part → (take (len + 1) (put_mid i (len + 1 - i) rows new) ≡ insert (take len rows) i row) × (drop (len + 1) (put_mid i (len + 1 - i) rows new) ≡ drop (len + 1) rows)
  opened rows i len row part new il lr p n =
      let lp : length part ≡ len + 1 - i = ap length p ∙ simp (length-take, length-drop) (omega arith) in
      let back : take (length part - 1) part ≡ drop i (take len rows) =
      ap (λ m. take m part) (let q : length part - 1 ≡ len - i = omega arith in q)
      ∙ ap (take (len - i)) p
      ∙ take-take (len - i) (len + 1 - i) (drop i rows) (omega arith)
      ∙ between_is rows i len in
      let new' : new ≡ row ∷ drop i (take len rows) = n ∙ ap (λ l. row ∷ l) back in
      let ln : length new ≡ len + 1 - i = ap length new' ∙ simp (length-drop, length-take) (omega arith) in (
        take-put_mid i (len + 1 - i) rows new (len + 1) (omega arith) (omega arith) ∙ ap (λ l. take i rows ++ l) new' ∙ ap (λ l. l ++ (row ∷ drop i (take len rows))) (sym (take-take i len rows il)),
        drop-put_mid i (len + 1 - i) rows new (len + 1) (omega arith) (omega arith) ln,
      )

  -- the places i to len, with the first of them last
  pub closed : (rows : List X) (i len : ℕ) (x : X) (part new : List X) → i < len → len ≤ length rows → x ≡ get_or rows i x → part ≡ take (len - i) (drop i rows) → new ≡ drop 1 part ++ take 1 part → put_mid i (len - i) rows new ≡ remove (take len rows) i ++ ((x ∷ []) ++ drop len rows)
  closed rows i len x part new il lr r p n =
      let lp : length part ≡ len - i = ap length p ∙ simp (length-take, length-drop) (omega arith) in
      let ln : length new ≡ len - i = ap length n ∙ simp (length-append, length-take, length-drop) (omega arith) in
      let rest : drop 1 part ≡ drop (suc i) (take len rows) = ap (drop 1) (p ∙ between_is rows i len) ∙ drop-drop 1 i (take len rows) ∙ ap (λ m. drop m (take len rows)) (let q : i + 1 ≡ suc i = omega arith in q) in
      let head : take 1 part ≡ x ∷ [] = ap (take 1) p ∙ take-take 1 (len - i) (drop i rows) (omega arith) ∙ ap (take 1) (drop_more rows i x (omega arith)) ∙ ap (λ y. y ∷ []) (sym r) in
      let whole : take len (put_mid i (len - i) rows new) ≡ take i rows ++ new = take-put_mid i (len - i) rows new len (omega arith) (omega arith) in
      let behind : drop len (put_mid i (len - i) rows new) ≡ drop len rows = drop-put_mid i (len - i) rows new len (omega arith) (omega arith) ln in
      let joined : take i rows ++ new ≡ remove (take len rows) i ++ (x ∷ []) =
      ap (λ l. take i rows ++ l) (n ∙ (λ j. rest j ++ head j))
      ∙ ap (λ l. l ++ (drop (suc i) (take len rows) ++ (x ∷ []))) (sym (take-take i len rows (omega arith)))
      ∙ sym (append_assoc (take i (take len rows)) (drop (suc i) (take len rows)) (x ∷ [])) in
      sym (take-append-drop len (put_mid i (len - i) rows new))
      ∙ (λ j. (whole ∙ joined) j ++ behind j)
      ∙ append_assoc (remove (take len rows) i) (x ∷ []) (drop len rows)

  -- the rows that are left, at the front of what the slice holds now
  pub front_left : (new left rows more : List X) (len i : ℕ) → i < len → len ≤ length rows → remove (take len rows) i ≡ left → new ≡ left ++ more → take (len - 1) new ≡ left
  front_left new left rows more len i l m e f =
      let n : length left ≡ len - 1 = ap length (sym e) ∙ simp (length-append, length-take, length-drop) (omega arith) in
      ap (take (len - 1)) f ∙ take_at left more (len - 1) n

  -- the places start to end of the first len, moved behind the others of those
  pub turned_front : (rows : List X) (start end len : ℕ) (part new : List X) → start ≤ end → end ≤ len → len ≤ length rows → part ≡ take (len - start) (drop start rows) → new ≡ drop (end - start) part ++ take (end - start) part → take (len - (end - start)) (put_mid start (len - start) rows new) ≡ take start (take len rows) ++ drop end (take len rows)
  turned_front rows start end len part new se el lr p n =
      let q : part ≡ drop start (take len rows) = p ∙ between_is rows start len in
      let m : start + (end - start) ≡ end = omega arith in
      let lp : length part ≡ len - start = ap length p ∙ simp (length-take, length-drop) (omega arith) in
      let ln : length new ≡ len - start = ap length n ∙ simp (length-append, length-take, length-drop) (omega arith) in
      let rest : drop (end - start) part ≡ drop end (take len rows) = ap (drop (end - start)) q ∙ drop-drop (end - start) start (take len rows) ∙ ap (λ k. drop k (take len rows)) m in
      let kept = take start (take len rows) ++ drop end (take len rows) in
      let long : length kept ≡ len - (end - start) = simp (length-append, length-take, length-drop) (omega arith) in
      let whole : take len (put_mid start (len - start) rows new) ≡ kept ++ take (end - start) part =
      take-put_mid start (len - start) rows new len (omega arith) (omega arith)
      ∙ ap (λ l. take start rows ++ l) (n ∙ ap (λ l. l ++ take (end - start) part) rest)
      ∙ ap (λ l. l ++ (drop end (take len rows) ++ take (end - start) part)) (sym (take-take start len rows (omega arith)))
      ∙ sym (append_assoc (take start (take len rows)) (drop end (take len rows)) (take (end - start) part)) in
      sym (take-take (len - (end - start)) len (put_mid start (len - start) rows new) (omega arith))
      ∙ ap (take (len - (end - start))) whole
      ∙ take_at kept (take (end - start) part) (len - (end - start)) long

  -- a place of one of the first rows, written over
  pub written : (rows : List X) (i len : ℕ) (row : X) → i < len → len ≤ length rows → (take len (set rows i row) ≡ set (take len rows) i row) × (drop len (set rows i row) ≡ drop len rows)
  written rows i len row il lr = (take-set-lt len rows i row il, drop-set-lt len rows i row il)
