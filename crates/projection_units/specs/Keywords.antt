-- Keywords of well-known text (OGC 01-009 and 18-010, and ESRI's).
use Rattle.std.specs.Prelude.{ℕ, Bool, ◌||◌, List, codes}
use Rattle.std.specs.Str.{bytes_eq}

-- one that begins the description of a plane
abbrev pub plane_word : List ℕ → Bool
plane_word word = bytes_eq word (codes "PROJCS") || bytes_eq word (codes "PROJCRS")
    || bytes_eq word (codes "PROJECTEDCRS") || bytes_eq word (codes "LOCAL_CS")
    || bytes_eq word (codes "ENGCRS") || bytes_eq word (codes "ENGINEERINGCRS")

-- one that ends it: that of heights, of times, or of another system follows
abbrev pub later_word : List ℕ → Bool
later_word word = bytes_eq word (codes "VERT_CS") || bytes_eq word (codes "VERTCS")
    || bytes_eq word (codes "VERTCRS") || bytes_eq word (codes "VERTICALCRS")
    || bytes_eq word (codes "TIMECRS") || bytes_eq word (codes "TARGETCRS")

-- one that begins a system of latitudes and longitudes
abbrev pub globe_word : List ℕ → Bool
globe_word word = bytes_eq word (codes "GEOGCS") || bytes_eq word (codes "GEOGCRS")
    || bytes_eq word (codes "GEOGRAPHICCRS")

-- one that begins a unit of length, or of any kind
abbrev pub unit_word : List ℕ → Bool
unit_word word = bytes_eq word (codes "UNIT") || bytes_eq word (codes "LENGTHUNIT")
