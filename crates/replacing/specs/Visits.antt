-- The parts of an accepted replacement: what is recorded of it, and one visit.
use Rattle.std.specs.Prelude.{ℕ, List, ℤ}
use Rattle.host.specs.Meaning.{Answer}
use Rattle.host.specs.declared.request.Request.{Request}
use Rattle.segment.specs.declared.cache_info.CacheInfo.{CacheInfo}
use Rattle.segment.specs.declared.rows.BlobRow.{BlobRow}
use Rattle.rules.specs.Books.{World, world, with_blobs}
use Rattle.rules.specs.Cleaning.{cleaned}
use Rattle.rules.specs.Links.{link_of}
use Rattle.rules.specs.Replacing.{taken_at}

-- the new entry is linked, and the blob rows are these
abbrev pub recorded : {M : Type 0} → ℕ → CacheInfo → List BlobRow → World M → World M
recorded p new rows w = world (with_blobs rows (link_of p new w.books)) w.host

-- an old segment, with a sum of bytes: taken away from, then cleaned
abbrev pub visit_of : {M : Type 0} → (M → Request → Answer × M) → ℕ → ℤ → ℕ × ℕ → World M → World M
visit_of respond p base sum w = cleaned respond sum.0 (world (taken_at sum.0 p base sum.1 w.books) w.host)
