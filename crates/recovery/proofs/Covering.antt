-- Entries that cover the rows in turn never lead past them.
use Rattle.std.proofs.Common.{◌≡◌, ℕ, zero, suc, ◌+◌, ◌<◌, ◌≤◌, Bool, true, false, eqb, List, [], ◌∷◌, length, get_or, take, drop, Some, None, Option, is_some, ◌∙◌, arith}
use Rattle.std.proofs.lemmas.Bool.{and_parts, and_right, eqb-true, ne_eqb, lt-ltb, le-leb}
use Rattle.segment.specs.Pages.{no_entry, page_rows, page_state}
use Rattle.segment.specs.declared.snapshot.PageEntry.{PageEntry}
use Rattle.segment.specs.declared.snapshot.SnapshotRow.{SnapshotRow}
use Rattle.rules.specs.Starting.{covers}

-- from a place past the rows nothing covers them
pub covers_past : (at : ℕ) (entries : List PageEntry) (rows : ℕ) → rows < at → covers at entries rows ≡ false
covers_past at [] rows l = ne_eqb at rows (λ e. omega arith)
covers_past at (entry ∷ entries) rows l = and_right (eqb entry.first at) (covers (at + entry.count) entries rows) (covers_past (at + entry.count) entries rows (omega arith))

pub covers_low : (at : ℕ) (entries : List PageEntry) (rows : ℕ) → covers at entries rows ≡ true → at ≤ rows
covers_low at [] rows h = let e = eqb-true at rows h in omega arith
covers_low at (entry ∷ entries) rows h = let l = covers_low (at + entry.count) entries rows (and_parts (eqb entry.first at) _ h).1 in omega arith

-- each entry ends within the rows
pub covered : (at : ℕ) (entries : List PageEntry) (rows i : ℕ) (d : PageEntry) → covers at entries rows ≡ true → i < length entries → (get_or entries i d).first + (get_or entries i d).count ≤ rows
covered at [] rows i d h l = absurd (omega arith)
covered at (entry ∷ entries) rows zero d h l =
    let hs = and_parts (eqb entry.first at) (covers (at + entry.count) entries rows) h in
    let e = eqb-true entry.first at hs.0 in
    let k = covers_low (at + entry.count) entries rows hs.1 in
    omega arith
covered at (entry ∷ entries) rows (suc i) d h l = covered (at + entry.count) entries rows i d (and_parts (eqb entry.first at) _ h).1 (omega arith)

-- the rows of a page are there
pub part_there : (directory : List PageEntry) (rows : List SnapshotRow) (page : ℕ) → covers 0 directory (length rows) ≡ true → page < length directory → page_rows directory rows page ≡ Some (take (get_or directory page no_entry).count (drop (get_or directory page no_entry).first rows))
part_there directory rows page h l =
    let here = lt-ltb page (length directory) l in
    let fits = le-leb _ _ (covered 0 directory (length rows) page no_entry h l) in
    rw (here, fits)

pub led_to : (directory : List PageEntry) (rows : List SnapshotRow) (page : ℕ) → covers 0 directory (length rows) ≡ true → page < length directory → page_rows directory rows page ≡ None → ⊥
led_to directory rows page h l e = let p = part_there directory rows page h l in let z : ◌≡◌ {A = ℕ} 0 1 = cc in omega arith

-- whether a page is formed of the rows, if they are there
abbrev pub forms : Option (List SnapshotRow) → Bool
forms None = false
forms (Some part) = is_some (page_state part)

pub part_is : (directory : List PageEntry) (rows part : List SnapshotRow) (page : ℕ) → covers 0 directory (length rows) ≡ true → page < length directory → Some part ≡ page_rows directory rows page → part ≡ take (get_or directory page no_entry).count (drop (get_or directory page no_entry).first rows)
part_is directory rows part page h l e = let p : Some part ≡ Some (take (get_or directory page no_entry).count (drop (get_or directory page no_entry).first rows)) = e ∙ part_there directory rows page h l in cc
