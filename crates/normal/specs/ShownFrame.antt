-- What stands in the code's frame: its geometry, and luma as it is averaged.
use Rattle.frame.specs.declared.view.Geometry.{Geometry}
use Rattle.noise.specs.PlanePair.{shown}
use Rattle.noise.specs.Average.{Luma}
use Rattle.normal.specs.declared.shown_frame.ShownFrame.{ShownFrame}

-- how its planes lie
abbrev pub geometry_in : ShownFrame → Geometry
geometry_in f = record { luma = f.luma.view; chroma = f.cb.view; sampling = f.sampling }

-- its luma, with what the format halves
abbrev pub luma_in : ShownFrame → Luma
luma_in f = record { plane = shown f.luma; sampling = f.sampling }
