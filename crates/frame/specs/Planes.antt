-- "planes Y, Cb, Cr in row order": the size of each plane of a frame, and what a call sees of it: "only samples and neighbours inside" the active rectangle.
use Rattle.std.specs.Prelude.{List, ℕ, ◌*◌}
use Rattle.frame.specs.Size.{chroma_width, chroma_height, sub_x, sub_y}
use Rattle.frame.specs.View.{viewed, part}
use Rattle.frame.specs.declared.Rectangle.{Rectangle}
use Rattle.frame.specs.declared.Shape.{Shape}
use Rattle.frame.specs.declared.view.View.{View}
use Rattle.frame.specs.declared.view.Sampling.{Sampling}
use Rattle.frame.specs.declared.view.Geometry.{Geometry}
use Rattle.frame.specs.declared.view.Component.{Component}
use Rattle.frame.specs.declared.view.Component.TheVariants.{Y, CbCr}

-- a frame that is active as a whole: "the old cases get a rectangle equal to the frame"
abbrev pub whole_frame : ℕ → ℕ → ℕ → ℕ → Shape
whole_frame w h depth format =
    record { width = w; height = h; depth = depth; format = format; active = record { left = 0; top = 0; width = w; height = h } }

-- ---- the size of a plane

-- the columns of a plane over x columns of luma, and the rows over x rows
abbrev pub columns_of : ℕ → Component → ℕ → ℕ
columns_of format Y x = x
columns_of format CbCr x = chroma_width format x

abbrev pub rows_of : ℕ → Component → ℕ → ℕ
rows_of format Y x = x
rows_of format CbCr x = chroma_height format x

abbrev pub width_of : Shape → Component → ℕ
width_of s component = columns_of s.format component s.width

abbrev pub height_of : Shape → Component → ℕ
height_of s component = rows_of s.format component s.height

abbrev pub samples_of : Shape → Component → ℕ
samples_of s component = width_of s component * height_of s component

-- ---- what a call sees

-- the active rectangle's part of a plane: a chroma plane has as many columns left of it, and in it, as lie over luma's there; and so its rows
abbrev pub active_of : Shape → Component → Rectangle
active_of s component =
    record {
      left = columns_of s.format component s.active.left;
      top = rows_of s.format component s.active.top;
      width = columns_of s.format component s.active.width;
      height = rows_of s.format component s.active.height;
    }

abbrev pub view_of : Shape → Component → View
view_of s component = part (width_of s component) (active_of s component)

-- "The reference becomes the Rust given the cropped planes": a plane, and the shape of the frame
abbrev pub cropped : Shape → Component → List ℕ → List ℕ
cropped s component plane = viewed (view_of s component) plane

abbrev pub cropped_frame : Shape → Shape
cropped_frame s = whole_frame s.active.width s.active.height s.depth s.format

abbrev pub sampling_of : Shape → Sampling
sampling_of s = record { across = sub_x s.format; down = sub_y s.format }

abbrev pub geometry_of : Shape → Geometry
geometry_of s = record { luma = view_of s Y; chroma = view_of s CbCr; sampling = sampling_of s }
