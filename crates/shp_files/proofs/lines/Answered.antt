-- What takes a layer's rings or answers a first fault takes the rings of each layer and answers each fault, memory aside.
use Rattle.std.proofs.Common.{◌≡◌, ◌⊎◌, inl, inr, ℕ, List, Option, Result, Ok, Err, refl, OnOk, MatchResult}
use Rattle.std.specs.Result.{IsErrAnd}
use Rattle.geo_exact.specs.declared.raw_ring.RawRing.{RawRing}
use Rattle.geo_exact.specs.declared.coord.Unit.{Unit as LengthUnit}
use Rattle.shp_files.specs.declared.fault.FileFault.{FileFault}
use Rattle.shp_files.specs.declared.fault.LayerFault.{LayerFault}
use Rattle.shp_files.specs.declared.fault.LayerFault.TheVariants.{File, NoMemory}
use Rattle.shp_files.specs.LayerFile.{NumberedRing, IsLayerFile, rings_of}
use Rattle.shp_files.specs.FirstFault.{IsFirstFault}
use Rattle.shp_files.specs.Taken.{HoldsLayer, HoldsRings}
use Rattle.shp_files.proofs.layers.Laws.{one_list_of_rings, no_fault_in_layer, one_first_fault}

pub layer_is_answered : {X A : Type 0} (main : List ℕ) (index : Option (List ℕ)) (unit : LengthUnit) (r : Result X LayerFault)
    (holds : List (RawRing A) → Type 0) (rings : List NumberedRing)
    → OnOk r (HoldsLayer main index unit holds) → ((f : FileFault) → r ≡ Err (File f) → IsFirstFault main index unit f)
    → IsLayerFile main index unit rings
    → MatchResult r (λ _. HoldsRings rings holds) (λ e. e ≡ NoMemory)
layer_is_answered main index unit (Ok x) holds rings layer fault file =
    record {
      held = layer.held;
      are = one_list_of_rings main index unit (rings_of layer.held) rings layer.is_file file;
      holds_them = layer.holds_them;
    }
layer_is_answered main index unit (Err (File f)) holds rings layer fault file =
    absurd (no_fault_in_layer main index unit rings f file (fault f refl))
layer_is_answered main index unit (Err NoMemory) holds rings layer fault file = refl

pub fault_is_answered : {X A : Type 0} (main : List ℕ) (index : Option (List ℕ)) (unit : LengthUnit) (r : Result X LayerFault)
    (holds : List (RawRing A) → Type 0) (f : FileFault)
    → OnOk r (HoldsLayer main index unit holds) → ((g : FileFault) → r ≡ Err (File g) → IsFirstFault main index unit g)
    → IsFirstFault main index unit f
    → IsErrAnd r (λ e. (e ≡ File f) ⊎ (e ≡ NoMemory))
fault_is_answered main index unit (Ok x) holds f layer fault is =
    absurd (no_fault_in_layer main index unit (rings_of layer.held) f layer.is_file is)
fault_is_answered main index unit (Err (File g)) holds f layer fault is =
    inl (let same = one_first_fault main index unit g f (fault g refl) is in cc)
fault_is_answered main index unit (Err NoMemory) holds f layer fault is = inr refl
