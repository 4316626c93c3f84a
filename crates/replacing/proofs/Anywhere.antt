-- Link asks no host: what it gives over the silent one it gives over every host.
use Rattle.std.proofs.Common.{◌≡◌, ℕ, Some, None, Option, Result, refl, ap, ◌∙◌}
use Rattle.host.specs.Meaning.{Answer}
use Rattle.host.specs.declared.request.Request.{Request}
use Rattle.segment.specs.declared.cache_info.CacheInfo.{CacheInfo}
use Rattle.rules.specs.declared.refusal.Refusal.{Refusal}
use Rattle.rules.specs.Books.{Books}
use Rattle.rules.specs.Calls as call
use Rattle.rules.specs.Links.{or_else, out_of_range, link_refusal}
use Rattle.replacing.specs.Silent.{silent, nothing}

module _ {M : Type 0} (respond : M → Request → Answer × M) (slot extent : M → ℕ) (m : M) (p : ℕ) (info : CacheInfo) (b : Books) where
  link_by_anywhere : (o : Option Refusal) → ((call.link_by silent nothing nothing o p info b tt).0, (call.link_by silent nothing nothing o p info b tt).1, m) ≡ call.link_by respond slot extent o p info b m
  link_by_anywhere None = refl
  link_by_anywhere (Some refusal) = refl

  pub link_anywhere : (r : Result (Unit {0}) Refusal) (after : Option Books) → (r, after, tt) ≡ call.link silent nothing nothing p info (Some b) tt → (r, after, m) ≡ call.link respond slot extent p info (Some b) m
  link_anywhere r after e = ap (λ x. (x.0, x.1, m)) e ∙ link_by_anywhere (or_else (call.lsn_refusal (out_of_range info.lsn)) (link_refusal b p info))
