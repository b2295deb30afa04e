-- What the parts of published copies keep. Public contracts do not speak of it.
use Rattle.std.specs.Prelude.{◌≡◌, Option, None, Some, List, [], ◌∷◌, ◌++◌}

-- the beginning of the list ends with this entry
pub record EndsWith {E : Type 0} (front : List E) (entry : E) : Type 0 where
  pub before : List E
  pub ends : front ≡ before ++ entry ∷ []

-- the entry that waits to be handed on, if one does
abbrev pub waiting_list : {E : Type 0} → Option E → List E
waiting_list None = []
waiting_list (Some entry) = entry ∷ []

-- what the writer of two copies shows: the state of the copy that readers take, and the operations that it lacks
pub record Written (S O : Type 0) : Type 0 where
  pub shown : S
  pub pending : List O
