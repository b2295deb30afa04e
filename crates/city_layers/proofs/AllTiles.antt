-- The faults of a layer's rings, as they are told.
use Rattle.std.proofs.Common.{◌≡◌, ◌⊎◌, inl, inr, refl, sym, ◌∙◌, ap, subst, ℕ, List, [], Option}
use Rattle.geo_exact.specs.declared.coord.Unit.{Unit as LengthUnit}
use Rattle.geo_exact.specs.declared.corner.Corner.{Corner}
use Rattle.shp_files.specs.LayerFile.{IsLayerFile, NumberedRing}
use Rattle.fabric_core.specs.declared.all_faults.AllFaults.{AllFaults}
use Rattle.fabric_core.specs.declared.all_faults.Asked.{Asked}
use Rattle.fabric_core.specs.declared.all_faults.LoadRefusal.{LoadRefusal}
use Rattle.fabric_core.specs.declared.layer.LoadFault.{LoadFault}
use Rattle.fabric_core.specs.declared.layer.LoadFault.TheVariants.{TooMany, Ring, Gap, NoMemory as LayerMemory}
use Rattle.fabric_core.specs.Rows.{AreRefined}
use Rattle.fabric_core.specs.Faults.{IsFirstFault, AreAsked, IsLoadFault, IsLoadRefusal, IsOutOfMemory}
use Rattle.city_layers.specs.declared.fault.Role.{Role}
use Rattle.city_layers.specs.declared.fault.ToolFault.{ToolFault}
use Rattle.city_layers.specs.declared.fault.ToolFault.TheVariants.{NoTiling, NoMemory}
use Rattle.city_layers.specs.TilingFiles.{Files, IsCityOf, IsFaultOfLayer, told_of_load}
use Rattle.city_layers.specs.FaultLines.{fault_lines, AreKindLines, AreLinesBefore}

-- a fault of the layer, with the lines that come before it where all faults are asked for
abbrev pub IsToldInFull : Asked → Role → Files → LengthUnit → List Corner → ToolFault → List ℕ → Type 0
IsToldInFull asked role files unit city fault lines =
    IsFaultOfLayer role files unit city fault
    × (asked ≡ Asked.All → (of_city : Files) → IsCityOf of_city unit city → AreLinesBefore of_city files unit fault lines)

-- the lines of what is asked for are those of all faults of the first's kind
lines_of_all : {A : Type 0} (asked : Asked) (rows : List NumberedRing) (refined : List Corner) (first : LoadFault)
    (all : Option (AllFaults A)) → asked ≡ Asked.All → IsFirstFault rows refined first → AreAsked asked rows refined first all
    → AreKindLines rows refined first (fault_lines all)
lines_of_all asked rows refined first all e h told = by_kind first h (subst (λ a. AreAsked a rows refined first all) e told)
  where
    by_kind : (first : LoadFault) → IsFirstFault rows refined first → AreAsked Asked.All rows refined first all
        → AreKindLines rows refined first (fault_lines all)
    by_kind (TooMany n) h told = ap fault_lines told
    by_kind (Ring n f) h told = (told.0.items, told.4, ap fault_lines told.2)
    by_kind (Gap a b net) h told = (told.0.items, told.4, ap fault_lines told.2)
    by_kind LayerMemory h told = absurd h

-- a layer's first fault is told as one of its files, with these lines
told_in_full : {A : Type 0} (asked : Asked) (role : Role) (files : Files) (unit : LengthUnit) (city : List Corner)
    (records : List NumberedRing) (rows : List NumberedRing) (refined : List Corner) (first : LoadFault) (all : Option (AllFaults A))
    → IsLayerFile files.main files.index unit records → AreRefined records city rows refined → IsFirstFault rows refined first
    → AreAsked asked rows refined first all → IsToldInFull asked role files unit city (told_of_load role first) (fault_lines all)
told_in_full asked role files unit city records rows refined first all is made h told =
    by_kind first
    (record { rows = rows; refined = refined; are_refined = made; is_first = h })
    (λ e. lines_of_all asked rows refined first all e h told)
  where
    in_full : (first : LoadFault) → IsLoadFault records city first → (asked ≡ Asked.All → AreKindLines rows refined first (fault_lines all))
        → IsToldInFull asked role files unit city (NoTiling role first) (fault_lines all)
    in_full first fault lines = (
      (refl, record { records = records; are_records = is; is_fault = fault }),
      λ e of_city c. (
        city,
        c,
        record {
          records = records;
          are_records = is;
          rows = rows;
          refined = refined;
          are_refined = made;
          are_lines = lines e;
        },
      ),
    )

    by_kind : (first : LoadFault) → IsLoadFault records city first → (asked ≡ Asked.All → AreKindLines rows refined first (fault_lines all))
        → IsToldInFull asked role files unit city (told_of_load role first) (fault_lines all)
    by_kind (TooMany n) fault lines = in_full (TooMany n) fault lines
    by_kind (Ring n f) fault lines = in_full (Ring n f) fault lines
    by_kind (Gap a b net) fault lines = in_full (Gap a b net) fault lines
    by_kind LayerMemory fault lines = absurd fault.is_first

-- what is answered of a layer that is not loaded
pub told_or_no_memory : {A : Type 0} (asked : Asked) (role : Role) (files : Files) (unit : LengthUnit) (city : List Corner)
    (records : List NumberedRing) (refusal : LoadRefusal A) (fault : ToolFault) (lines : List ℕ)
    → IsLayerFile files.main files.index unit records
    → IsLoadRefusal asked records city refusal ⊎ IsOutOfMemory refusal
    → ((fault ≡ told_of_load role refusal.first) × (lines ≡ fault_lines refusal.all)) ⊎ ((fault ≡ NoMemory) × (lines ≡ []))
    → IsToldInFull asked role files unit city fault lines ⊎ ((fault ≡ NoMemory) × (lines ≡ []))
told_or_no_memory asked role files unit city records refusal fault lines is (inl k) (inl h) =
    inl (subst (λ x. IsToldInFull asked role files unit city x lines) (sym h.0)
    (subst (IsToldInFull asked role files unit city (told_of_load role refusal.first)) (sym h.1)
    (told_in_full asked role files unit city records k.rows k.refined refusal.first refusal.all is k.are_refined k.is_first k.are_asked)))
told_or_no_memory asked role files unit city records refusal fault lines is (inr e) (inl h) =
    inr (h.0 ∙ ap (told_of_load role) e.0, h.1 ∙ ap fault_lines e.1)
told_or_no_memory asked role files unit city records refusal fault lines is k (inr h) = inr h

-- what holds of the fault that is told and of want of memory holds of the answer
pub told_as : (P : ToolFault → Type 0) → P NoMemory → (answer told : ToolFault) (lines others : List ℕ)
    → ((answer ≡ told) × (lines ≡ others)) ⊎ ((answer ≡ NoMemory) × (lines ≡ [])) → P told → P answer
told_as P memory answer told lines others (inl h) k = subst P (sym h.0) k
told_as P memory answer told lines others (inr h) k = subst P (sym h.0) memory
