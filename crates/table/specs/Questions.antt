-- "Sizes 4,096 and 4,097; sample 255 and 256 at 8 bits; register bits 16 and 17." Refusals worked by hand: also empty planes, an unknown depth and format, a bad active rectangle, a length off by one; and of two faults the first in the scope's order.
use Rattle.std.specs.Prelude.{List, [], ◌∷◌, ◌++◌, ℕ, ◌-◌, ◌^◌, get_or, replicate}
use Rattle.table.specs.Cases.{Case, row}
use Rattle.frame.specs.Questions.{first_no, order_known, bits_known}
use Rattle.frame.specs.Calls.{plane_refusal, pair_refusal, frame_refusal, fit_refusal, gate_refusal, denoise_frame_refusal}
use Rattle.frame.specs.Planes.{whole_frame}
use Rattle.frame.specs.declared.Rectangle.{Rectangle}
use Rattle.frame.specs.declared.Shape.{Shape}
use Rattle.frame.specs.declared.view.Component.TheVariants.{Y, CbCr}

-- ---- lone planes: width, height, the lengths of source and destination

abbrev pub plane : ℕ × ℕ × ℕ × ℕ → ℕ
plane (w, h, src, dst) = plane_refusal w h src dst

abbrev pub plane_cases : List (Case (ℕ × ℕ × ℕ × ℕ) ℕ)
plane_cases =
    row (4096, 4096, 16777216, 16777216) 0 ∷
    row (4097, 0, 0, 0) 1 ∷
    row (0, 4097, 0, 0) 1 ∷
    row (4097, 1, 0, 0) 1 ∷
    row (0, 0, 0, 0) 0 ∷
    row (3, 2, 5, 6) 5 ∷
    row (3, 2, 6, 7) 5 ∷ []

-- width, height, depth, the samples of the plane and of its copy
abbrev pub pair : ℕ × ℕ × ℕ × List ℕ × List ℕ → ℕ
pair (w, h, depth, a, b) = pair_refusal w h depth a b

abbrev pub pair_cases : List (Case (ℕ × ℕ × ℕ × List ℕ × List ℕ) ℕ)
pair_cases =
    row (0, 0, 8, [], []) 0 ∷
    row (4097, 1, 9, [], []) 1 ∷
    row (2, 1, 9, [], []) 3 ∷
    row (2, 1, 8, 256 ∷ [], 0 ∷ 0 ∷ []) 5 ∷
    row (2, 1, 8, 0 ∷ 0 ∷ [], 0 ∷ 0 ∷ 0 ∷ []) 5 ∷
    row (2, 1, 8, 0 ∷ 255 ∷ [], 255 ∷ 0 ∷ []) 0 ∷
    row (2, 1, 8, 0 ∷ 256 ∷ [], 0 ∷ 0 ∷ []) 6 ∷
    row (2, 1, 8, 0 ∷ 0 ∷ [], 256 ∷ 0 ∷ []) 6 ∷
    row (1, 1, 10, 1023 ∷ [], 0 ∷ []) 0 ∷
    row (1, 1, 10, 1024 ∷ [], 0 ∷ []) 6 ∷
    row (1, 1, 12, 4095 ∷ [], 0 ∷ []) 0 ∷
    row (1, 1, 12, 4096 ∷ [], 0 ∷ []) 6 ∷ []

-- ---- frames: width, height, depth, format

abbrev pub shape : ℕ → ℕ → ℕ → ℕ → Shape
shape w h depth format = whole_frame w h depth format

-- left, top, width, height; and a frame of 8 bits that is active there
abbrev pub at : ℕ → ℕ → ℕ → ℕ → Rectangle
at left top w h = record { left = left; top = top; width = w; height = h }

abbrev pub within : ℕ → ℕ → ℕ → Rectangle → Shape
within w h format active = record { width = w; height = h; depth = 8; format = format; active = active }

-- a plane of n zeros, and one with 256 at its end
abbrev pub flat : ℕ → List ℕ
flat n = replicate n 0

abbrev pub high : ℕ → List ℕ
high n = replicate (n - 1) 0 ++ (256 ∷ [])

-- Y, Cb and Cr
abbrev pub Three : Type 0
Three = List ℕ × List ℕ × List ℕ

-- a frame and its copy
abbrev pub frame : Shape × Three × Three → ℕ
frame (s, (y, cb, cr), (y-denoised, cb-denoised, cr-denoised)) = frame_refusal s y cb cr y-denoised cb-denoised cr-denoised

abbrev pub frame_cases : List (Case (Shape × Three × Three) ℕ)
frame_cases =
    row (shape 4097 1 9 4, ([], [], []), ([], [], [])) 1 ∷
    row (shape 0 1 9 4, ([], [], []), ([], [], [])) 2 ∷
    row (shape 1 0 9 4, ([], [], []), ([], [], [])) 2 ∷
    row (shape 1 1 9 4, ([], [], []), ([], [], [])) 3 ∷
    row (shape 1 1 8 4, ([], [], []), ([], [], [])) 4 ∷
    row (shape 3 3 8 0, (flat 9, [], []), (flat 9, [], [])) 0 ∷
    row (shape 3 3 8 0, (flat 9, flat 1, []), (flat 9, [], [])) 5 ∷
    row (shape 3 3 8 1, (flat 9, flat 4, flat 4), (flat 9, flat 4, flat 4)) 0 ∷
    row (shape 3 3 8 2, (flat 9, flat 6, flat 6), (flat 9, flat 6, flat 6)) 0 ∷
    row (shape 3 3 8 3, (flat 9, flat 9, flat 9), (flat 9, flat 9, flat 9)) 0 ∷
    row (shape 3 3 8 1, (high 9, flat 4, flat 9), (flat 9, flat 4, flat 4)) 5 ∷
    row (shape 3 3 8 1, (flat 9, flat 4, flat 4), (flat 9, flat 4, flat 9)) 5 ∷
    row (shape 3 3 8 1, (flat 9, flat 4, flat 4), (flat 8, flat 4, flat 4)) 5 ∷
    row (shape 3 3 8 1, (high 9, flat 4, flat 4), (flat 9, flat 4, flat 4)) 6 ∷
    row (shape 3 3 8 1, (flat 9, high 4, flat 4), (flat 9, flat 4, flat 4)) 6 ∷
    row (shape 3 3 8 1, (flat 9, flat 4, high 4), (flat 9, flat 4, flat 4)) 6 ∷
    row (shape 3 3 8 1, (flat 9, flat 4, flat 4), (high 9, flat 4, flat 4)) 6 ∷
    row (shape 3 3 8 1, (flat 9, flat 4, flat 4), (flat 9, high 4, flat 4)) 6 ∷
    row (shape 3 3 8 1, (flat 9, flat 4, flat 4), (flat 9, flat 4, high 4)) 6 ∷
    row (within 5 5 4 (at 5 5 5 5), ([], [], []), ([], [], [])) 4 ∷
    row (within 5 5 1 (at 5 5 5 5), ([], [], []), ([], [], [])) 12 ∷
    row (within 5 5 0 (at 0 0 1 1), (high 25, [], []), (flat 25, [], [])) 6 ∷ []

-- a frame of 5 × 5 in a format, with an active rectangle, and with nothing else to refuse: its chroma planes are 0 × 0, 3 × 3, 3 × 5 or 5 × 5
abbrev chroma : ℕ → ℕ
chroma format = get_or (0 ∷ 9 ∷ 15 ∷ 25 ∷ []) format 0

abbrev pub active : ℕ × Rectangle → ℕ
active (format, rectangle) =
    let planes : Three = (flat 25, flat (chroma format), flat (chroma format)) in
    frame (within 5 5 format rectangle, planes, planes)

-- whole; empty; at an end, and past it; at an odd place; and with the largest number
abbrev pub active_cases : List (Case (ℕ × Rectangle) ℕ)
active_cases =
    row (0, at 0 0 5 5) 0 ∷
    row (1, at 0 0 5 5) 0 ∷
    row (2, at 0 0 5 5) 0 ∷
    row (3, at 0 0 5 5) 0 ∷
    row (1, at 0 0 0 5) 12 ∷
    row (1, at 0 0 5 0) 12 ∷
    row (1, at 2 2 3 3) 0 ∷
    row (1, at 2 2 4 3) 12 ∷
    row (1, at 2 2 3 4) 12 ∷
    row (1, at 4 0 1 5) 0 ∷
    row (1, at 0 4 5 1) 0 ∷
    row (1, at 1 0 2 2) 12 ∷
    row (1, at 0 1 2 2) 12 ∷
    row (2, at 1 0 2 2) 12 ∷
    row (2, at 0 1 2 2) 0 ∷
    row (0, at 1 1 2 2) 0 ∷
    row (3, at 1 1 2 2) 0 ∷
    row (3, at (2 ^ 64 - 1) 0 1 5) 12 ∷
    row (3, at 0 (2 ^ 64 - 1) 5 2) 12 ∷
    row (3, at 1 0 (2 ^ 64 - 1) 5) 12 ∷
    row (3, at 0 2 5 (2 ^ 64 - 1)) 12 ∷ []

-- a frame, its copy and a lag
abbrev pub fit : Shape × Three × Three × ℕ → ℕ
fit (s, (y, cb, cr), (y-denoised, cb-denoised, cr-denoised), lag) = fit_refusal s y cb cr y-denoised cb-denoised cr-denoised lag

abbrev pub fit_cases : List (Case (Shape × Three × Three × ℕ) ℕ)
fit_cases =
    row (shape 1 1 8 0, (flat 1, [], []), (flat 1, [], []), 3) 0 ∷
    row (shape 1 1 8 0, (flat 1, [], []), (flat 1, [], []), 4) 7 ∷
    row (shape 1 1 8 0, (flat 1, [], []), (high 1, [], []), 4) 6 ∷
    row (within 1 1 0 (at 1 0 1 1), (flat 1, [], []), (high 1, [], []), 4) 12 ∷ []

-- a frame and the lengths of its destinations
abbrev pub denoise_frame : Shape × Three × (ℕ × ℕ × ℕ) → ℕ
denoise_frame (s, (y, cb, cr), (to-y, to-cb, to-cr)) = denoise_frame_refusal s y cb cr to-y to-cb to-cr

abbrev pub denoise_frame_cases : List (Case (Shape × Three × (ℕ × ℕ × ℕ)) ℕ)
denoise_frame_cases =
    row (shape 3 3 8 1, (flat 9, flat 4, flat 4), (9, 4, 4)) 0 ∷
    row (shape 3 3 8 1, (flat 9, flat 4, high 4), (9, 4, 4)) 6 ∷
    row (shape 3 3 8 1, (high 9, flat 4, flat 4), (8, 4, 4)) 5 ∷
    row (shape 3 3 8 1, (flat 9, flat 4, flat 4), (9, 5, 4)) 5 ∷
    row (shape 3 3 8 1, (flat 9, flat 4, flat 4), (9, 4, 9)) 5 ∷
    row (shape 3 3 9 1, (flat 9, flat 4, flat 4), (9, 4, 4)) 3 ∷
    row (within 3 3 1 (at 1 0 2 3), (flat 9, flat 4, flat 4), (9, 4, 4)) 12 ∷ []

-- ---- gates: one component of two frames and of their copies

abbrev pub Four : Type 0
Four = List ℕ × List ℕ × List ℕ × List ℕ

abbrev pub luma_gate : Shape × Four → ℕ
luma_gate (s, (a, b, c, d)) = gate_refusal s Y a b c d

abbrev pub luma_gate_cases : List (Case (Shape × Four) ℕ)
luma_gate_cases =
    row (shape 3 3 8 1, (flat 9, flat 9, flat 9, flat 9)) 0 ∷
    row (shape 3 3 8 4, (flat 9, flat 9, flat 9, flat 9)) 4 ∷
    row (shape 3 3 8 1, (flat 4, flat 4, flat 4, flat 4)) 5 ∷
    row (shape 3 3 8 1, (high 9, flat 9, flat 9, flat 9)) 6 ∷
    row (shape 3 3 8 1, (flat 9, high 9, flat 9, flat 9)) 6 ∷
    row (shape 3 3 8 1, (flat 9, flat 9, high 9, flat 9)) 6 ∷
    row (shape 3 3 8 1, (flat 9, flat 9, flat 9, high 9)) 6 ∷
    row (shape 3 3 8 1, (high 9, flat 9, flat 9, flat 8)) 5 ∷
    row (within 3 3 1 (at 0 1 3 2), (flat 9, flat 9, flat 9, flat 8)) 12 ∷ []

abbrev pub chroma_gate : Shape × Four → ℕ
chroma_gate (s, (a, b, c, d)) = gate_refusal s CbCr a b c d

abbrev pub chroma_gate_cases : List (Case (Shape × Four) ℕ)
chroma_gate_cases =
    row (shape 3 3 8 0, ([], [], [], [])) 0 ∷
    row (shape 3 3 8 1, (flat 4, flat 4, flat 4, flat 4)) 0 ∷
    row (shape 3 3 8 1, (flat 9, flat 9, flat 9, flat 9)) 5 ∷
    row (shape 3 3 8 1, (flat 4, flat 4, high 4, flat 4)) 6 ∷
    row (within 3 3 1 (at 0 1 3 2), (flat 4, flat 4, high 4, flat 4)) 12 ∷ []

-- ---- "Order 0 and 26: 8."; the register's bits

abbrev pub order : ℕ → ℕ
order n = first_no (order_known n ∷ [])

abbrev pub order_cases : List (Case ℕ ℕ)
order_cases = row 0 8 ∷ row 1 0 ∷ row 25 0 ∷ row 26 8 ∷ []

abbrev pub bits : ℕ → ℕ
bits n = first_no (bits_known n ∷ [])

abbrev pub bits_cases : List (Case ℕ ℕ)
bits_cases = row 16 0 ∷ row 17 9 ∷ []
