-- The first fault of a city's files and of a layer's files: that a function which read them can answer no other.
use Rattle.std.proofs.Common.{◌≡◌, ◌≢◌, ◌⊎◌, inl, inr, ℕ, List, [], ◌∷◌, length, sym, ap, subst, ◌∙◌}
use Rattle.geo_exact.specs.declared.corner.Corner.{Corner}
use Rattle.geo_exact.specs.declared.coord.Unit.{Unit as LengthUnit}
use Rattle.geo_exact.specs.Rings.{begun_at_least}
use Rattle.shp_files.specs.LayerFile.{IsLayerFile, NumberedRing}
use Rattle.shp_files.specs.FirstFault.{IsFirstFault}
use Rattle.shp_files.specs.declared.fault.FileFault.{FileFault}
use Rattle.fabric_core.specs.declared.city.CityFault.{CityFault}
use Rattle.fabric_core.specs.declared.city.CityFault.TheVariants.{Ring as CityFaultRing, Folded, NoMemory as CityMemory}
use Rattle.fabric_core.specs.declared.layer.LoadFault.{LoadFault}
use Rattle.fabric_core.specs.declared.layer.LoadFault.TheVariants.{TooMany, Ring as LayerFaultRing, Gap, NoMemory as LayerMemory}
use Rattle.fabric_core.specs.Rows.{Tiles}
use Rattle.fabric_core.specs.Faults.{IsCityFault, IsLoadFault}
use Rattle.city_layers.specs.declared.fault.Role.{Role}
use Rattle.city_layers.specs.declared.fault.Role.TheVariants.{City}
use Rattle.city_layers.specs.declared.fault.ToolFault.{ToolFault}
use Rattle.city_layers.specs.declared.fault.ToolFault.TheVariants.{Unreadable, UnreadableIndex, Output, File, CityCount, CityRing, NoTiling}
use Rattle.city_layers.specs.declared.fault.ToolFault.TheVariants.{ClerkCount, ClerkLine, PointLine, NoParcel, NoThread, NoWindow, NoMemory}
use Rattle.city_layers.specs.TilingFiles.{Files, IsCityOf, IsFaultOfCity, IsFaultOfLayer, IsTiledBy, told_of_city, told_of_load}

-- a fault is told, or memory was wanted
abbrev pub Tells : ToolFault → ToolFault → Type 0
Tells told fault = (told ≡ fault) ⊎ (told ≡ NoMemory)

-- the same fault of a file, whichever of two equal roles it is told of
told_role : (told role other : Role) (e : ToolFault) (fault : FileFault) → other ≡ role → Tells e (File role fault)
    → Tells e (File other fault)
told_role told role other e fault h k = subst (λ r. Tells e (File r fault)) (sym h) k

-- what was answered where the files gave no rings
pub city_unread : (files : Files) (unit : LengthUnit) (e : ToolFault)
    → ((rings : List NumberedRing) → IsLayerFile files.main files.index unit rings → e ≡ NoMemory)
    → ((fault : FileFault) → IsFirstFault files.main files.index unit fault → Tells e (File City fault))
    → (fault : ToolFault) → IsFaultOfCity files unit fault → Tells e fault
city_unread files unit e reads refuses (File role fault) h = told_role role City role e fault h.0 (refuses fault h.1)
city_unread files unit e reads refuses (CityCount count) h = inr (reads h.rings h.is_layer)
city_unread files unit e reads refuses (CityRing fault) h = inr (reads (h.ring ∷ []) h.is_only)
city_unread files unit e reads refuses (NoTiling role fault) h = absurd h
city_unread files unit e reads refuses (Unreadable path) h = absurd h
city_unread files unit e reads refuses (UnreadableIndex stem) h = absurd h
city_unread files unit e reads refuses (ClerkCount count) h = absurd h
city_unread files unit e reads refuses (ClerkLine clerk line) h = absurd h
city_unread files unit e reads refuses (PointLine number) h = absurd h
city_unread files unit e reads refuses (NoParcel id) h = absurd h
city_unread files unit e reads refuses (NoThread hand) h = absurd h
city_unread files unit e reads refuses (NoWindow window) h = absurd h
city_unread files unit e reads refuses Output h = absurd h
city_unread files unit e reads refuses NoMemory h = absurd h

pub layer_unread : (role : Role) (files : Files) (unit : LengthUnit) (city : List Corner) (e : ToolFault)
    → ((rings : List NumberedRing) → IsLayerFile files.main files.index unit rings → e ≡ NoMemory)
    → ((fault : FileFault) → IsFirstFault files.main files.index unit fault → Tells e (File role fault))
    → (fault : ToolFault) → IsFaultOfLayer role files unit city fault → Tells e fault
layer_unread role files unit city e reads refuses (File told fault) h = told_role told role told e fault h.0 (refuses fault h.1)
layer_unread role files unit city e reads refuses (NoTiling told fault) h = inr (reads h.1.records h.1.are_records)
layer_unread role files unit city e reads refuses (CityCount count) h = absurd h
layer_unread role files unit city e reads refuses (CityRing fault) h = absurd h
layer_unread role files unit city e reads refuses (Unreadable path) h = absurd h
layer_unread role files unit city e reads refuses (UnreadableIndex stem) h = absurd h
layer_unread role files unit city e reads refuses (ClerkCount count) h = absurd h
layer_unread role files unit city e reads refuses (ClerkLine clerk line) h = absurd h
layer_unread role files unit city e reads refuses (PointLine number) h = absurd h
layer_unread role files unit city e reads refuses (NoParcel id) h = absurd h
layer_unread role files unit city e reads refuses (NoThread hand) h = absurd h
layer_unread role files unit city e reads refuses (NoWindow window) h = absurd h
layer_unread role files unit city e reads refuses Output h = absurd h
layer_unread role files unit city e reads refuses NoMemory h = absurd h

-- what is answered where the files gave rings, and other than one
pub city_counted : (files : Files) (unit : LengthUnit) (found : List NumberedRing) (count : ℕ) → length found ≡ count → count ≢ 1
    → ((rings : List NumberedRing) → IsLayerFile files.main files.index unit rings → found ≡ rings)
    → ((fault : FileFault) → IsFirstFault files.main files.index unit fault → ⊥)
    → (fault : ToolFault) → IsFaultOfCity files unit fault → Tells (CityCount count) fault
city_counted files unit found count e ne only sound (File role fault) h = absurd (sound fault h.1)
city_counted files unit found count e ne only sound (CityCount other) h =
    inl (ap CityCount (sym e ∙ ap length (only h.rings h.is_layer) ∙ h.has_count))
city_counted files unit found count e ne only sound (CityRing fault) h = absurd (ne (sym e ∙ ap length (only (h.ring ∷ []) h.is_only)))
city_counted files unit found count e ne only sound (NoTiling role fault) h = absurd h
city_counted files unit found count e ne only sound (Unreadable path) h = absurd h
city_counted files unit found count e ne only sound (UnreadableIndex stem) h = absurd h
city_counted files unit found count e ne only sound (ClerkCount other) h = absurd h
city_counted files unit found count e ne only sound (ClerkLine clerk line) h = absurd h
city_counted files unit found count e ne only sound (PointLine number) h = absurd h
city_counted files unit found count e ne only sound (NoParcel id) h = absurd h
city_counted files unit found count e ne only sound (NoThread hand) h = absurd h
city_counted files unit found count e ne only sound (NoWindow window) h = absurd h
city_counted files unit found count e ne only sound Output h = absurd h
city_counted files unit found count e ne only sound NoMemory h = absurd h

-- then there is no city
pub no_city : (files : Files) (unit : LengthUnit) (found : List NumberedRing) (count : ℕ) → length found ≡ count → count ≢ 1
    → ((rings : List NumberedRing) → IsLayerFile files.main files.index unit rings → found ≡ rings)
    → (corners : List Corner) → IsCityOf files unit corners → ⊥
no_city files unit found count e ne only corners h = ne (sym e ∙ ap length (only (h.ring ∷ []) h.is_only))

-- the first ring of a list that has one
abbrev first_or : NumberedRing → List NumberedRing → NumberedRing
first_or other [] = other
first_or other (ring ∷ rings) = ring

-- the only ring's corners, begun, are those of each city that the files give
pub same_city : (files : Files) (unit : LengthUnit) (found : List NumberedRing) (ring : NumberedRing) → found ≡ ring ∷ []
    → ((rings : List NumberedRing) → IsLayerFile files.main files.index unit rings → found ≡ rings)
    → (corners : List Corner) → IsCityOf files unit corners
    → begun_at_least ring.corners ≡ corners
same_city files unit found ring one only corners h =
    ap (λ rings. begun_at_least (first_or ring rings).corners) (sym one ∙ only (h.ring ∷ []) h.is_only) ∙ sym h.is_begun

-- what is answered where the files gave one ring
pub city_refused : (files : Files) (unit : LengthUnit) (found : List NumberedRing) (ring : NumberedRing)
    (P : ToolFault → Type 0) → found ≡ ring ∷ []
    → ((rings : List NumberedRing) → IsLayerFile files.main files.index unit rings → found ≡ rings)
    → ((fault : FileFault) → IsFirstFault files.main files.index unit fault → ⊥)
    → ((fault : CityFault) → IsCityFault (begun_at_least ring.corners) fault → P (CityRing fault))
    → (fault : ToolFault) → IsFaultOfCity files unit fault → P fault
city_refused files unit found ring P one only sound refuses (File role fault) h = absurd (sound fault h.1)
city_refused files unit found ring P one only sound refuses (CityCount count) h =
    absurd (h.is_not_one (sym h.has_count ∙ ap length (sym (only h.rings h.is_layer) ∙ one)))
city_refused files unit found ring P one only sound refuses (CityRing fault) h =
    refuses fault (subst (λ corners. IsCityFault corners fault)
    (sym (ap (λ rings. begun_at_least (first_or ring rings).corners) (sym one ∙ only (h.ring ∷ []) h.is_only))) h.is_fault)
city_refused files unit found ring P one only sound refuses (NoTiling role fault) h = absurd h
city_refused files unit found ring P one only sound refuses (Unreadable path) h = absurd h
city_refused files unit found ring P one only sound refuses (UnreadableIndex stem) h = absurd h
city_refused files unit found ring P one only sound refuses (ClerkCount count) h = absurd h
city_refused files unit found ring P one only sound refuses (ClerkLine clerk line) h = absurd h
city_refused files unit found ring P one only sound refuses (PointLine number) h = absurd h
city_refused files unit found ring P one only sound refuses (NoParcel id) h = absurd h
city_refused files unit found ring P one only sound refuses (NoThread hand) h = absurd h
city_refused files unit found ring P one only sound refuses (NoWindow window) h = absurd h
city_refused files unit found ring P one only sound refuses Output h = absurd h
city_refused files unit found ring P one only sound refuses NoMemory h = absurd h

-- a ring's first fault is told
pub told_city_first : (corners : List Corner) (answer fault : CityFault) → IsCityFault corners fault
    → (answer ≡ fault) ⊎ (answer ≡ CityMemory) → Tells (told_of_city answer) (CityRing fault)
told_city_first corners answer (CityFaultRing f) h k = elim k [ inl e ↦ inl (ap told_of_city e) | inr e ↦ inr (ap told_of_city e) ]
told_city_first corners answer (Folded i j) h k = elim k [ inl e ↦ inl (ap told_of_city e) | inr e ↦ inr (ap told_of_city e) ]
told_city_first corners answer CityMemory h k = absurd h

-- a ring that is a city is refused for want of memory alone
pub told_city_memory : (corners : List Corner) (answer : CityFault)
    → ((fault : CityFault) → ¬ IsCityFault corners fault) → IsCityFault corners answer ⊎ (answer ≡ CityMemory)
    → told_of_city answer ≡ NoMemory
told_city_memory corners answer none h = elim h [ inl k ↦ absurd (none answer k) | inr e ↦ ap told_of_city e ]

-- a layer that tiles the city is refused for want of memory alone
pub layer_loaded : (role : Role) (files : Files) (unit : LengthUnit) (city : List Corner) (tiles : Tiles) (answer : LoadFault)
    → (h : IsTiledBy files unit city tiles) → {found : List NumberedRing} → found ≡ h.records
    → IsLoadFault found city answer ⊎ (answer ≡ LayerMemory) → told_of_load role answer ≡ NoMemory
layer_loaded role files unit city tiles answer h same k = elim k [
  | inl fault ↦ absurd (h.has_no_fault answer (subst (λ records. IsLoadFault records city answer) same fault))
  | inr e ↦ ap (told_of_load role) e
]

-- a layer's first fault is told
told_load_first : (role told : Role) (records : List NumberedRing) (city : List Corner) (answer fault : LoadFault)
    → told ≡ role → IsLoadFault records city fault
    → (answer ≡ fault) ⊎ (answer ≡ LayerMemory) → Tells (told_of_load role answer) (NoTiling told fault)
told_load_first role told records city answer (TooMany n) r h k =
    elim k [
      | inl e ↦ inl (ap (told_of_load role) e ∙ ap (λ x. NoTiling x (TooMany n)) (sym r))
      | inr e ↦
          inr (ap (told_of_load role) e)
    ]
told_load_first role told records city answer (LayerFaultRing n f) r h k =
    elim k [
      | inl e ↦ inl (ap (told_of_load role) e ∙ ap (λ x. NoTiling x (LayerFaultRing n f)) (sym r))
      | inr e ↦
          inr (ap (told_of_load role) e)
    ]
told_load_first role told records city answer (Gap a b net) r h k =
    elim k [
      | inl e ↦ inl (ap (told_of_load role) e ∙ ap (λ x. NoTiling x (Gap a b net)) (sym r))
      | inr e ↦
          inr (ap (told_of_load role) e)
    ]
told_load_first role told records city answer LayerMemory r h k = absurd h.is_first

-- what is answered where the files gave rings that are refused
pub layer_refused : (role : Role) (files : Files) (unit : LengthUnit) (city : List Corner) (found : List NumberedRing) (answer : LoadFault)
    → ((rings : List NumberedRing) → IsLayerFile files.main files.index unit rings → found ≡ rings)
    → ((fault : FileFault) → IsFirstFault files.main files.index unit fault → ⊥)
    → ((fault : LoadFault) → IsLoadFault found city fault → (answer ≡ fault) ⊎ (answer ≡ LayerMemory))
    → (fault : ToolFault) → IsFaultOfLayer role files unit city fault → Tells (told_of_load role answer) fault
layer_refused role files unit city found answer only sound refuses (File told fault) h = absurd (sound fault h.1)
layer_refused role files unit city found answer only sound refuses (NoTiling told fault) h =
    told_load_first role told h.1.records city answer fault h.0 h.1.is_fault
    (refuses fault (subst (λ rings. IsLoadFault rings city fault) (sym (only h.1.records h.1.are_records)) h.1.is_fault))
layer_refused role files unit city found answer only sound refuses (CityCount count) h = absurd h
layer_refused role files unit city found answer only sound refuses (CityRing fault) h = absurd h
layer_refused role files unit city found answer only sound refuses (Unreadable path) h = absurd h
layer_refused role files unit city found answer only sound refuses (UnreadableIndex stem) h = absurd h
layer_refused role files unit city found answer only sound refuses (ClerkCount count) h = absurd h
layer_refused role files unit city found answer only sound refuses (ClerkLine clerk line) h = absurd h
layer_refused role files unit city found answer only sound refuses (PointLine number) h = absurd h
layer_refused role files unit city found answer only sound refuses (NoParcel id) h = absurd h
layer_refused role files unit city found answer only sound refuses (NoThread hand) h = absurd h
layer_refused role files unit city found answer only sound refuses (NoWindow window) h = absurd h
layer_refused role files unit city found answer only sound refuses Output h = absurd h
layer_refused role files unit city found answer only sound refuses NoMemory h = absurd h

-- where the files gave rings that are loaded, there is no fault
pub layer_has_none : (role : Role) (files : Files) (unit : LengthUnit) (city : List Corner) (found : List NumberedRing)
    → ((rings : List NumberedRing) → IsLayerFile files.main files.index unit rings → found ≡ rings)
    → ((fault : FileFault) → IsFirstFault files.main files.index unit fault → ⊥)
    → ((fault : LoadFault) → IsLoadFault found city fault → ⊥)
    → (fault : ToolFault) → IsFaultOfLayer role files unit city fault → ⊥
layer_has_none role files unit city found only sound none (File told fault) h = sound fault h.1
layer_has_none role files unit city found only sound none (NoTiling told fault) h =
    none fault (subst (λ rings. IsLoadFault rings city fault) (sym (only h.1.records h.1.are_records)) h.1.is_fault)
layer_has_none role files unit city found only sound none (CityCount count) h = h
layer_has_none role files unit city found only sound none (CityRing fault) h = h
layer_has_none role files unit city found only sound none (Unreadable path) h = h
layer_has_none role files unit city found only sound none (UnreadableIndex stem) h = h
layer_has_none role files unit city found only sound none (ClerkCount count) h = h
layer_has_none role files unit city found only sound none (ClerkLine clerk line) h = h
layer_has_none role files unit city found only sound none (PointLine number) h = h
layer_has_none role files unit city found only sound none (NoParcel id) h = h
layer_has_none role files unit city found only sound none (NoThread hand) h = h
layer_has_none role files unit city found only sound none (NoWindow window) h = h
layer_has_none role files unit city found only sound none Output h = h
layer_has_none role files unit city found only sound none NoMemory h = h
