-- An accepted replacement: its checks say that it may be recorded, and that then every visit may be made.
use Rattle.std.proofs.Common.{◌≡◌, ℕ, Bool, false, not, ◌||◌, List, ℤ, Some, None, Err, sym, subst}
use Rattle.std.proofs.lemmas.Bool.{or_parts}
use Rattle.table.specs.Rows.{every}
use Rattle.host.specs.Meaning.{Answer}
use Rattle.host.specs.declared.request.Request.{Request}
use Rattle.segment.specs.Bases.{base_of}
use Rattle.segment.specs.Pointers.{blob_of}
use Rattle.segment.specs.declared.cache_info.CacheInfo.{CacheInfo}
use Rattle.segment.specs.declared.rows.BlobRow.{BlobRow}
use Rattle.rules.specs.declared.refusal.Refusal.{Refusal}
use Rattle.rules.specs.Books.{Books, with_blobs}
use Rattle.rules.specs.Calls as call
use Rattle.rules.specs.Links.{or_else, out_of_range, info_segment, link_refusal, link_of}
use Rattle.rules.specs.Replacing.{given_up, sums_of, olds_refusal, blob_rows_full, replace_refusal}
use Rattle.orders.specs.Share.{Shared}
use Rattle.orders.proofs.Replaces.{or_else_none, passed, linked_active}
use Rattle.orders.proofs.ShareSteps.{share_steps}

-- some LSN of the call is out of range
abbrev pub outside : ℤ → List CacheInfo → CacheInfo → Bool
outside lsn olds new = out_of_range lsn || (out_of_range new.lsn || not (every (λ old. not (out_of_range old.lsn)) olds))

-- the rows are those that the checks made ready
pub recorded_keeps : (b : Books) (p : ℕ) (lsn : ℤ) (olds : List CacheInfo) (new : CacheInfo) (rows : List BlobRow) → rows ≡ given_up (info_segment b new) (blob_of new.pointer) olds b.blobs → replace_refusal b p lsn olds new ≡ None → outside lsn olds new ≡ false → Shared b → Shared (with_blobs rows (link_of p new b))
recorded_keeps b p lsn olds new rows given e o h =
    let e2 = or_else_none (link_refusal b p new) _ (or_else_none _ _ e).1 in
    let e3 = or_else_none (olds_refusal (link_of p new b) p (base_of b.size lsn) (sums_of b olds)) _ e2.1 in
    let x = linked_active b p new e2.0 in
    let in_range = (or_parts (out_of_range new.lsn) _ (or_parts (out_of_range lsn) _ o).1).0 in
    subst (λ rs. Shared (with_blobs rs (link_of p new b))) (sym given)
    (share_steps.gives olds new x.0 (link_of p new b) x.1 (passed (blob_rows_full b (info_segment b new) (blob_of new.pointer) olds) _ _ e3.1).0 (share_steps.links p new b in_range e2.0 h))

-- ---- the whole call
pub check_refused : {M : Type 0} (respond : M → Request → Answer × M) (slot extent : M → ℕ) (b : Books) (p : ℕ) (lsn : ℤ) (olds : List CacheInfo) (new : CacheInfo) (m : M) (refusal : Refusal) → outside lsn olds new ≡ false → replace_refusal b p lsn olds new ≡ Some refusal → (Err refusal, Some b, m) ≡ call.replace respond slot extent p lsn olds new (Some b) m
check_refused respond slot extent b p lsn olds new m refusal e f = sym (λ i. call.replace_by respond slot extent (or_else (call.lsn_refusal (e i)) (f i)) p lsn olds new b m)
