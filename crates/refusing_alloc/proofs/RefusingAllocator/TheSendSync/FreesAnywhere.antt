-- A block is the inner allocator's, so any thread may give it back where any thread may give that one's back.
use denote.Param.Send.{Frees}
use denote.RattleType.{RattleType}
use mir.Syntax.{Dict}
use Rattle.refusing_alloc.specs.contracts.RefusingAllocator.TheImpl.{ghosts}
use Rattle.std.specs.declared.alloc.Allocator.{Ghosts}

pub frees : (B : RattleType) (g : Ghosts B.Denot) (d e : Dict) → Frees g g.dealloc_token
    → Frees (ghosts B g d e) (ghosts B g d e).dealloc_token
frees B g d e inner = record { frees = λ heap. inner.frees heap.inner }
