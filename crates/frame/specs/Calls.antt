-- "A call is asked, in this order, only about things it receives." The questions of each kind of call; its answer is the number of the first that fails, or 0.
use Rattle.std.specs.Prelude.{List, [], ◌∷◌, ◌++◌, map, ℕ, length}
use Rattle.frame.specs.Questions.{Question, first_no, small, present, depth_known, format_known, active_inside, filled, frame_filled, samples_low, lag_known, order_known, bits_known}
use Rattle.frame.specs.Planes.{width_of, height_of}
use Rattle.frame.specs.declared.Shape.{Shape}
use Rattle.frame.specs.declared.view.Component.{Component}

-- ---- about numbers alone; the planes stand by their lengths

-- a lone plane and its destination: no depth, and no samples are asked about
unfoldable pub plane_numbers : ℕ → ℕ → List ℕ → List Question
plane_numbers w h planes = small w h ∷ filled w h planes ∷ []

-- a lone plane and its denoised copy
unfoldable pub pair_numbers : ℕ → ℕ → ℕ → List ℕ → List Question
pair_numbers w h depth planes = small w h ∷ depth_known depth ∷ filled w h planes ∷ []

-- the shape of a frame call
unfoldable pub shape_numbers : Shape → List Question
shape_numbers s =
    small s.width s.height ∷ present s.width s.height ∷ depth_known s.depth ∷ format_known s.format ∷ active_inside s ∷ []

-- its planes: of luma and of chroma; of one component
unfoldable pub frame_numbers : Shape → List ℕ → List ℕ → List Question
frame_numbers s luma chroma = shape_numbers s ++ (frame_filled s luma chroma ∷ [])

unfoldable pub gate_numbers : Shape → Component → List ℕ → List Question
gate_numbers s component planes = shape_numbers s ++ (filled (width_of s component) (height_of s component) planes ∷ [])

-- a lag, an order, a number of bits
abbrev pub lag_refusal : ℕ → ℕ
lag_refusal lag = first_no (lag_known lag ∷ [])

abbrev pub order_refusal : ℕ → ℕ
order_refusal order = first_no (order_known order ∷ [])

abbrev pub bits_refusal : ℕ → ℕ
bits_refusal bits = first_no (bits_known bits ∷ [])

-- ---- the calls; a plane is the list of its samples, a destination its length

-- denoise of a plane
unfoldable pub plane_refusal : ℕ → ℕ → ℕ → ℕ → ℕ
plane_refusal w h src dst = first_no (plane_numbers w h (src ∷ dst ∷ []))

-- sigma16 and row correlation of a plane and its denoised copy
unfoldable pub pair_refusal : ℕ → ℕ → ℕ → List ℕ → List ℕ → ℕ
pair_refusal w h depth a b =
    first_no (pair_numbers w h depth (map length (a ∷ b ∷ [])) ++ (samples_low depth (a ∷ b ∷ []) ∷ []))

-- a frame and its denoised copy: profile and chroma correlation; a fit is asked about its lag as well
unfoldable pub copy_questions : Shape → List ℕ → List ℕ → List ℕ → List ℕ → List ℕ → List ℕ → List Question
copy_questions s y cb cr y-denoised cb-denoised cr-denoised =
    frame_numbers s (map length (y ∷ y-denoised ∷ [])) (map length (cb ∷ cr ∷ cb-denoised ∷ cr-denoised ∷ [])) ++
    (samples_low s.depth (y ∷ cb ∷ cr ∷ y-denoised ∷ cb-denoised ∷ cr-denoised ∷ []) ∷ [])

unfoldable pub frame_refusal : Shape → List ℕ → List ℕ → List ℕ → List ℕ → List ℕ → List ℕ → ℕ
frame_refusal s y cb cr y-denoised cb-denoised cr-denoised = first_no (copy_questions s y cb cr y-denoised cb-denoised cr-denoised)

unfoldable pub fit_refusal : Shape → List ℕ → List ℕ → List ℕ → List ℕ → List ℕ → List ℕ → ℕ → ℕ
fit_refusal s y cb cr y-denoised cb-denoised cr-denoised lag = first_no (copy_questions s y cb cr y-denoised cb-denoised cr-denoised ++ (lag_known lag ∷ []))

-- a gate: one component of two frames and of their denoised copies
unfoldable pub gate_refusal : Shape → Component → List ℕ → List ℕ → List ℕ → List ℕ → ℕ
gate_refusal s component a b c d =
    first_no (gate_numbers s component (map length (a ∷ b ∷ c ∷ d ∷ [])) ++ (samples_low s.depth (a ∷ b ∷ c ∷ d ∷ []) ∷ []))

-- denoise of a frame: a destination's old contents are neither source nor denoised samples
unfoldable pub denoise_frame_refusal : Shape → List ℕ → List ℕ → List ℕ → ℕ → ℕ → ℕ → ℕ
denoise_frame_refusal s y cb cr toY toCb toCr =
    first_no (frame_numbers s (length y ∷ toY ∷ []) (length cb ∷ length cr ∷ toCb ∷ toCr ∷ []) ++ (samples_low s.depth (y ∷ cb ∷ cr ∷ []) ∷ []))
