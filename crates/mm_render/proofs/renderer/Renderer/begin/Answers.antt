use Rattle.std.proofs.Common.{◌++◌, true, ap, ◌∙◌, sym, subst}
use Rattle.mm_header.specs.HeaderText.{header_bytes}
use Rattle.mm_claims.specs.Keeping.{Fits}
use Rattle.mm_claims.specs.Rendered.{Rendered}
use Rattle.mm_claims.proofs.KeepingLaws.{begun_fits}
use Rattle.mm_render.proofs.renderer.Renderer.begin.Goals as goal

pub returns-clause-fits : goal.returns-clause-fits
returns-clause-fits c names bytes fits =
    subst (λ (k : Rendered). Fits names k (bytes ++ header_bytes)) (sym (ap (λ (k : Rendered).
    let b : Rendered = record k { begun = true } in b) (c.self.view_is ∙ c.requires)))
    (begun_fits names bytes (subst (λ (k : Rendered). Fits names k bytes) c.requires fits))
