-- The first fault of the layers that a run loads, as the code's own functions hand
-- it on: no public contract speaks of it.
use Rattle.std.specs.Prelude.{Option, None, Some}
use Rattle.city_layers.specs.declared.fault.ToolFault.{ToolFault}
use Rattle.city_layers.specs.TilingFiles.{Files, IsTilesFault}
use Rattle.city_layers.specs.ZonedFiles.{IsLayersFault}
use Rattle.parcel_runs.specs.RunFiles.{ParcelRun}

-- the fault is the first of the city's files, the parcels', and the zones', where there are any
abbrev pub IsLayersFaultOf : ParcelRun → Option Files → ToolFault → Type 0
IsLayersFaultOf run None fault = IsTilesFault run.city run.parcels run.unit fault
IsLayersFaultOf run (Some zones) fault = IsLayersFault run.city run.parcels zones run.unit fault
