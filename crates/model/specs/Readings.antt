-- Document 01, "Readings to prove": K1 to K10, as answers of Read and of Check; and the sheet that is printed there. Of document
-- 02: item 4, K1 to K10 mirrored, and three points under each new code; item 6, where K6 and K7 changed, exact halves; item 8,
-- where K1 and K2 changed, which curve code 1 gives.
-- Assumes nothing.
use Rattle.std.specs.Prelude.{ℕ, ◌≡◌, cond, List, [], ◌∷◌, map, ℤ, pos, neg_ℤ, ◌-ℤ◌}
use Rattle.exact.specs.Fraction.{Fraction, ◌over◌, whole, ◌+ℚ◌, ◌-ℚ◌, ltℚ}
use Rattle.exact.specs.Rounding.{floor, half, round}
use Rattle.model.specs.Answer.{Answer, gives, refused}
use Rattle.model.specs.Points.{Point}
use Rattle.model.specs.Interpolant.{rational}
use Rattle.model.specs.Check.{check_answer, on_lists_of}
use Rattle.model.specs.Read.{exact_value, read_answer}
use Rattle.model.specs.Sheet.{sheet_answer, sheet_list}

-- area / value / slope
infix 70 ◌/◌/◌
abbrev pub ◌/◌/◌ : ℕ → ℕ → ℤ → Point
area / value / slope = record { area = area; value = value; slope = slope }

-- what Read answers, of points, a shape code and an area
abbrev pub read : List Point → ℕ → ℕ → Answer ℤ
read ps code area = on_lists_of ps (λ ps. read_answer ps code area)

-- the points of K1 to K4
unfoldable pub bow : List Point
bow = 500 / 10000 / pos 0 ∷ 600 / 14000 / pos 10000 ∷ []

-- K1 to K10, each with what it is to answer; K9 and K10 name no area. K6 and K7 as document 02, item 6, has them: 0.5 and -1.5.
-- K1 and K2 as item 8 has them.
unfoldable pub ten : ℕ → List (Answer ℤ × Answer ℤ)
ten area =
    (read bow 1 550, gives (pos 10800))
    ∷ (read bow 1 525, gives (pos 10182))
    ∷ (read bow 2 550, gives (pos 10800))
    ∷ (read bow 2 525, gives (pos 10182))
    ∷ (read (500 / 10000 / pos 2000 ∷ 600 / 14000 / pos 6000 ∷ []) 1 501, gives (pos 10020))
    ∷ (read (0 / 0 / pos 50 ∷ 2 / 1 / pos 50 ∷ []) 2 1, gives (pos 0))
    ∷ (read (0 / 0 / neg_ℤ (pos 300) ∷ 2 / 0 / pos 300 ∷ []) 2 1, gives (neg_ℤ (pos 2)))
    ∷ (read (0 / 0 / pos 0 ∷ 2 / 1 / pos 100 ∷ []) 2 1, gives (pos 0))
    ∷ (read (0 / 0 / pos 100 ∷ 100 / 100 / pos 200 ∷ []) 2 area, refused 6 0)
    ∷ (read (0 / 5 / pos 0 ∷ 10 / 5 / pos 1 ∷ []) 1 area, refused 6 0)
    ∷ []

abbrev pub TenReadings : Type 0
TenReadings = (area : ℕ) → map (λ k. k.0) (ten area) ≡ map (λ k. k.1) (ten area)

-- beyond document 01: three points
unfoldable pub kink : List Point
kink = 0 / 1000 / neg_ℤ (pos 500) ∷ 100 / 900 / pos 100 ∷ 300 / 2000 / pos 1500 ∷ []

abbrev pub FurtherReadings : Type 0
FurtherReadings =
    -- K9 and K10, as answers of Check
    (on_lists_of (0 / 0 / pos 100 ∷ 100 / 100 / pos 200 ∷ []) (λ ps. check_answer ps 2) ≡ refused 6 0)
    × (on_lists_of (0 / 5 / pos 0 ∷ 10 / 5 / pos 1 ∷ []) (λ ps. check_answer ps 1) ≡ refused 6 0)
    -- an area in each segment of three points, and the point between them
    × (read kink 2 50 ≡ gives (pos 883)) × (read kink 2 200 ≡ gives (pos 1145)) × (read kink 2 100 ≡ gives (pos 900))
    -- "The curve file": the sheet that is printed there; and row 7 at its entry, after row 8
    × (sheet_list bow 2 500 25 (sheet_answer bow 2 500 25 5) (pos 0 ∷ pos 0 ∷ pos 0 ∷ pos 0 ∷ pos 0 ∷ [])
    ≡ pos 10000 ∷ pos 10182 ∷ pos 10800 ∷ pos 12000 ∷ pos 14000 ∷ [])
    × (sheet_answer bow 2 500 26 5 ≡ refused 7 4) × (sheet_answer bow 2 400 0 5 ≡ refused 8 0)

-- the points of K1 to K4, mirrored
unfoldable pub mirrored_bow : List Point
mirrored_bow = 500 / 190000 / pos 0 ∷ 600 / 186000 / neg_ℤ (pos 10000) ∷ []

-- K1 to K10 mirrored: 200,000 less each reading, of the exact halves K6 and K7 too; of K1 and K2, that of the rising curve, which
-- item 8 leaves to the mirror
unfoldable pub ten_mirrored : ℕ → List (Answer ℤ × Answer ℤ)
ten_mirrored area =
    (read mirrored_bow 3 550, gives (pos 189111))
    ∷ (read mirrored_bow 3 525, gives (pos 189771))
    ∷ (read mirrored_bow 4 550, gives (pos 189200))
    ∷ (read mirrored_bow 4 525, gives (pos 189818))
    ∷ (read (500 / 190000 / neg_ℤ (pos 2000) ∷ 600 / 186000 / neg_ℤ (pos 6000) ∷ []) 3 501, gives (pos 189980))
    ∷ (read (0 / 200000 / neg_ℤ (pos 50) ∷ 2 / 199999 / neg_ℤ (pos 50) ∷ []) 4 1, gives (pos 200000))
    ∷ (read (0 / 200000 / pos 300 ∷ 2 / 200000 / neg_ℤ (pos 300) ∷ []) 4 1, gives (pos 200002))
    ∷ (read (0 / 200000 / pos 0 ∷ 2 / 199999 / neg_ℤ (pos 100) ∷ []) 4 1, gives (pos 200000))
    ∷ (read (0 / 200000 / neg_ℤ (pos 100) ∷ 100 / 199900 / neg_ℤ (pos 200) ∷ []) 4 area, refused 6 0)
    ∷ (read (0 / 199995 / pos 0 ∷ 10 / 199995 / neg_ℤ (pos 1) ∷ []) 3 area, refused 6 0)
    ∷ []

-- three points that fall, and three whose slopes fall
unfoldable pub fall : List Point
fall = 0 / 2000 / neg_ℤ (pos 300) ∷ 100 / 1900 / pos 0 ∷ 300 / 1000 / neg_ℤ (pos 800) ∷ []

unfoldable pub arch : List Point
arch = 0 / 1000 / pos 1500 ∷ 200 / 2100 / neg_ℤ (pos 100) ∷ 300 / 1900 / neg_ℤ (pos 500) ∷ []

abbrev pub MirroredReadings : Type 0
MirroredReadings =
    ((area : ℕ) → map (λ k. k.0) (ten_mirrored area) ≡ map (λ k. k.1) (ten_mirrored area))
    × (read fall 3 50 ≡ gives (pos 1920)) × (read fall 3 200 ≡ gives (pos 1662)) × (read fall 3 100 ≡ gives (pos 1900))
    × (read arch 4 100 ≡ gives (pos 1936)) × (read arch 4 250 ≡ gives (pos 2038)) × (read arch 4 200 ≡ gives (pos 2100))
    -- a concave curve passes 200,000
    × (read (0 / 200000 / pos 10000 ∷ 2000 / 200000 / neg_ℤ (pos 10000) ∷ []) 4 1000 ≡ gives (pos 250000))
    -- row 2 is for codes outside 1 to 4
    × (read fall 0 50 ≡ refused 2 0) × (read fall 5 50 ≡ refused 2 0)
    -- the same points, read as rising or convex, do not have their shape
    × (read fall 1 50 ≡ refused 6 0) × (read arch 2 100 ≡ refused 6 0)

-- a line from 0 to 3: at 1, 3 and 5 it is 0.5, 1.5 and 2.5
unfoldable pub slow_line : List Point
slow_line = 0 / 0 / pos 50 ∷ 6 / 3 / pos 50 ∷ []

-- the same from 200,000 downwards
unfoldable pub mirrored_line : List Point
mirrored_line = 0 / 200000 / neg_ℤ (pos 50) ∷ 6 / 199997 / neg_ℤ (pos 50) ∷ []

unfoldable pub sagging : List Point
sagging = 0 / 1 / pos 0 ∷ 2 / 2 / pos 100 ∷ []

-- Document 02, item 6: exact halves
abbrev pub HalfReadings : Type 0
HalfReadings =
    -- the steps are 2 and 0 on a convex curve, -2 and 0 on a concave one
    (read slow_line 2 1 ≡ gives (pos 0)) × (read slow_line 2 3 ≡ gives (pos 2)) × (read slow_line 2 5 ≡ gives (pos 2))
    × (read mirrored_line 4 1 ≡ gives (pos 200000)) × (read mirrored_line 4 3 ≡ gives (pos 199998))
    × (read mirrored_line 4 5 ≡ gives (pos 199998))
    -- the same lines, rising and falling
    × (read slow_line 1 1 ≡ gives (pos 0)) × (read slow_line 1 3 ≡ gives (pos 2))
    × (read mirrored_line 3 1 ≡ gives (pos 200000)) × (read mirrored_line 3 3 ≡ gives (pos 199998))
    × (read (0 / 1 / neg_ℤ (pos 50) ∷ 2 / 0 / neg_ℤ (pos 50) ∷ []) 3 1 ≡ gives (pos 0))
    -- a chord of 1.5 and a sag of 0.25
    × (read sagging 2 1 ≡ gives (pos 1))

-- Document 01, "Traps in this trade", two of them: wrong roundings of an exact value
unfoldable pub away_from_zero : Fraction → ℤ
away_from_zero v =
    cond (ltℚ v (whole (pos 0))) (neg_ℤ (floor (whole (pos 0) -ℚ v +ℚ half))) (floor (v +ℚ half))

-- the chord and the sag below it
unfoldable pub apart : (chord v : Fraction) → ℤ
apart chord v = round chord -ℤ round (chord -ℚ v)

-- Item 6: the first shows at K6 and no longer at K7, the second no longer at K8 but at 0/1/0, 2/2/100
abbrev pub Traps : Type 0
Traps =
    (away_from_zero (exact_value (0 / 0 / pos 50 ∷ 2 / 1 / pos 50 ∷ []) 2 1) ≡ pos 1)
    × (away_from_zero (exact_value (0 / 0 / neg_ℤ (pos 300) ∷ 2 / 0 / pos 300 ∷ []) 2 1) ≡ neg_ℤ (pos 2))
    × (apart (pos 1 over pos 2) (exact_value (0 / 0 / pos 0 ∷ 2 / 1 / pos 100 ∷ []) 2 1) ≡ pos 0)
    × (apart (pos 3 over pos 2) (exact_value sagging 2 1) ≡ pos 2)

-- the points of K1, turned round
unfoldable pub turned : List Point
turned = 500 / 10000 / pos 10000 ∷ 600 / 14000 / pos 0 ∷ []

-- K1's segment, and one that fails the convex test after it or before it
unfoldable pub bow_first : List Point
bow_first = 500 / 10000 / pos 0 ∷ 600 / 14000 / pos 10000 ∷ 700 / 20000 / pos 10000 ∷ []

unfoldable pub bow_last : List Point
bow_last = 400 / 9000 / pos 2000 ∷ 500 / 10000 / pos 0 ∷ 600 / 14000 / pos 10000 ∷ []

unfoldable pub level : List Point
level = 0 / 5 / pos 0 ∷ 10 / 5 / pos 0 ∷ []

-- Document 02, item 8
abbrev pub ConvexFirstReadings : Type 0
ConvexFirstReadings =
    -- a curve under 1 that is not convex
    (read turned 1 550 ≡ gives (pos 13111)) × (read turned 1 575 ≡ gives (pos 13771)) × (read turned 2 550 ≡ refused 6 0)
    -- there r = 3 would give 13,250, and the rule of 4 gives 13,200
    × (round (rational (pos 100) (pos 10000) (pos 14000) (pos 50) (whole (pos 100)) (whole (pos 0)) (whole (pos 3))) ≡ pos 13250)
    × (read turned 4 550 ≡ gives (pos 13200))
    -- not convex in one segment alone: K1's segment reads by the rising curve too
    × (read bow_first 1 550 ≡ gives (pos 10889)) × (read bow_first 1 525 ≡ gives (pos 10229))
    × (read bow_first 1 650 ≡ gives (pos 17000)) × (read bow_last 1 550 ≡ gives (pos 10889))
    -- a straight rise and a constant, under 1 and 2
    × (read slow_line 1 3 ≡ read slow_line 2 3) × (read level 1 4 ≡ gives (pos 5)) × (read level 2 4 ≡ gives (pos 5))
    -- K5 under 2
    × (read (500 / 10000 / pos 2000 ∷ 600 / 14000 / pos 6000 ∷ []) 2 501 ≡ gives (pos 10020))
