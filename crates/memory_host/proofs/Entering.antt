-- Blobs entered in turn: one insertion at a time, each of which has room, and what is held in the end.
use Rattle.std.proofs.Common.{◌≡◌, ℕ, ◌+◌, ◌<◌, ◌≤◌, min, false, ◌||◌, List, [], ◌∷◌, length, get_or, take, drop, ℤ, pos, is_some, Some, None, Ok, Err, Option, Result, Ordering, Less, Equal, Greater, sym, refl, ap, ◌∙◌, ⊎_elim, true≢false, arith, MatchResult}
use mathlib.Core.Bool.{or-true, or-false, or_assoc}
use Rattle.std.specs.Ordering.{is_eq}
use Rattle.std.proofs.lemmas.List.{at_drop_more, take_all}
use Rattle.std.proofs.lemmas.Bool.{cases_lt}
use Rattle.table.specs.Order.{signed_lawful}
use Rattle.table.specs.Rows.{find, insert_row}
use Rattle.table.proofs.Orders.{rank_same}
use Rattle.table.proofs.Laws.{length_insert_new, length_insert_old, find_insert_same, find_insert_other}
use Rattle.memory_host.specs.Blobs.{Blobs, pointer, by_pointer, row_of, is_held, with_blob, with_all, among}
use Rattle.memory_host.proofs.Same.{same_blobs}
use Rattle.memory_host.specs.declared.blob.Blob.{Blob}

abbrev inserted : List Blob → ℤ → List Blob
inserted rows b = insert_row pointer by_pointer rows (row_of b)

-- an insertion into rows below their limit is not refused
pub has_room : {U F : Type 0} (r : Result U F) (P Q R : Type 0) (n limit : ℕ) → MatchResult r (λ _. P) (λ _. Q × (n ≡ limit) × R) → n < limit → P
has_room (Ok u) P Q R n limit h l = h
has_room (Err e) P Q R n limit h l = absurd (omega arith)

pub one_more : (rows : List Blob) (b : ℤ) → length (inserted rows b) ≤ length rows + 1
one_more rows b = on (find pointer by_pointer rows b) refl
  where
    on : (o : Option Blob) → find pointer by_pointer rows b ≡ o → length (inserted rows b) ≤ length rows + 1
    on None e = omega (arith, length_insert_new pointer signed_lawful rows (row_of b) e)
    on (Some x) e = omega (arith, length_insert_old pointer signed_lawful rows (row_of b) x e)

-- what is yet to come is taken up one by one
pub next_entered : (s t : Blobs) (bs : List ℤ) (i : ℕ) → i < length bs → t.rows ≡ inserted s.rows (get_or bs i (pos 0)) → with_all t (drop (i + 1) bs) ≡ with_all s (drop i bs)
next_entered s t bs i h e = ap (λ x. with_all x (drop (i + 1) bs)) (same_blobs t (with_blob s (get_or bs i (pos 0))) e) ∙ sym (at_drop_more (with_all s) bs i (pos 0) h)

-- the first of a list, as many as there are
pub first_among : {X : Type 0} (xs : List X) (n k : ℕ) → k ≡ min (length xs) n → take k xs ≡ take n xs
first_among xs n k e =
    ⊎_elim
    (λ l. take_all k xs (omega arith) ∙ sym (take_all n xs (omega arith)))
    (λ m. let s : k ≡ n = omega arith in ap (λ j. take j xs) s)
    (cases_lt (length xs) n)

held_inserted : (s : Blobs) (b d : ℤ) → is_held (with_blob s b) d ≡ (is_held s d || is_eq (by_pointer b d))
held_inserted s b d = on (by_pointer b d) refl
  where
    apart : (o : Ordering) → by_pointer b d ≡ o → is_eq o ≡ false → b ≡ d → ⊥
    apart o e n t = true≢false (sym (ap is_eq (rank_same signed_lawful b d t)) ∙ ap is_eq e ∙ n)

    on : (o : Ordering) → by_pointer b d ≡ o → is_held (with_blob s b) d ≡ (is_held s d || is_eq o)
    on Less e = ap is_some (find_insert_other pointer signed_lawful s.rows (row_of b) d (apart Less e refl)) ∙ sym (or-false _)
    on Equal e = ap (is_held (with_blob s b)) (sym (signed_lawful.same b d e)) ∙ ap is_some (find_insert_same pointer signed_lawful s.rows (row_of b)) ∙ sym (or-true _)
    on Greater e = ap is_some (find_insert_other pointer signed_lawful s.rows (row_of b) d (apart Greater e refl)) ∙ sym (or-false _)

pub held_entered : (s : Blobs) (bs : List ℤ) (d : ℤ) → is_held (with_all s bs) d ≡ (is_held s d || among bs d)
held_entered s [] d = sym (or-false _)
held_entered s (b ∷ bs) d = held_entered (with_blob s b) bs d ∙ ap (λ t. t || among bs d) (held_inserted s b d) ∙ or_assoc (is_held s d) (is_eq (by_pointer b d)) (among bs d)
