use Rattle.std.proofs.Common.{inl, inr, ◌≡◌, ◌⊎◌, ◌∙◌, sym, subst}
use Rattle.fabric_core.proofs.edits.Refusals.{IsErrAnd-weaker}
use Rattle.city_layers.specs.declared.fault.Role.TheVariants.{Parcels}
use Rattle.city_layers.specs.declared.fault.ToolFault.TheVariants.{NoMemory}
use Rattle.city_layers.specs.TilingFiles.{files_of, IsFaultOfLayer, IsTiledBy}
use Rattle.geo_exact.proofs.PassedOn.{passed_as}
use Rattle.city_layers.proofs.all_tiles.load_told_by.Goals as goal

pub returns-in_err-city-clause-refuses : goal.returns-in_err-city-clause-refuses
returns-in_err-city-clause-refuses g c = λ fault h.
    IsErrAnd-weaker c.from_residual.result _ (λ refusal. (refusal.fault ≡ fault) ⊎ (refusal.fault ≡ NoMemory))
    (λ refusal told. subst (λ x. (x ≡ fault) ⊎ (x ≡ NoMemory)) (sym told.0) (elim h [
      | inl k ↦ c.in_err-city.ensures.refuses fault k
      | inr k ↦ inr (c.in_err-city.ensures.reads k.corners k.is_city)
    ])) c.from_residual.ensures.1

pub returns-clause-refuses : goal.returns-clause-refuses
returns-clause-refuses g c = λ fault h. elim h [
  | inl k ↦ absurd (c.in_ok-city.ensures.refuses fault k)
  | inr k ↦ c.read_told_by.ensures.refuses fault
      (subst (λ corners. IsFaultOfLayer Parcels (files_of c.args.parcels.now) c.args.unit corners fault)
      (sym (c.in_ok-city.ensures.reads k.corners k.is_city)) k.is_fault)
]

pub returns-in_err-city-clause-loads : goal.returns-in_err-city-clause-loads
returns-in_err-city-clause-loads g c = λ tiles h.
    passed_as c.from_residual.result _ (λ refusal. refusal.fault ≡ NoMemory) c.from_residual.ensures.1 (λ refusal told.
    told.0 ∙ c.in_err-city.ensures.reads tiles.city h.is_city)

pub returns-clause-loads : goal.returns-clause-loads
returns-clause-loads g c = λ tiles h.
    c.read_told_by.ensures.loads tiles
    (subst (λ corners. IsTiledBy (files_of c.args.parcels.now) c.args.unit corners tiles)
    (sym (c.in_ok-city.ensures.reads tiles.city h.is_city)) h.is_tiled)
