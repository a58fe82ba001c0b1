-- The factor, or −1,000,000 less the number of the row, which is small.
use Rattle.std.proofs.Common.{◌≡◌, ℕ, w32, to_z, of_z, to_z-of_z, pos, neg_ℤ, ◌-ℤ◌, ◌≤◌, arith, rules}
use mir.Facts.{to_z_pos}
use Rattle.exact.proofs.Magnitude.{sfits_of_size, size--}
use Rattle.model.proofs.Numbered.{number_most}
use Rattle.refusal.proofs.Results.{in_table}
use Rattle.desk_answer.specs.Desk.{desk_number}
use Rattle.desk_answer.proofs.number.Goals as goal

below : (n : ℕ) → n ≤ number_most → to_z w32 (of_z w32 (neg_ℤ (pos 1000000) -ℤ to_z w32 n)) ≡ neg_ℤ (pos 1000000) -ℤ pos n
below n h =
    rw (to_z_pos w32 {n = n} (omega arith))
    (to_z-of_z (sfits_of_size w32 _ (omega (arith, size-- (neg_ℤ (pos 1000000)) (pos n)))))

pub returns-in-Ok : goal.returns-in-Ok
unfolding desk_number
returns-in-Ok c = rw c.in-Ok.is (to_z-of_z {w = w32} {z = c.in-Ok.factor} (search rules))

pub returns-in-Err : goal.returns-in-Err
unfolding desk_number
returns-in-Err c = rw (c.in-Err.is, c.number.ensures) (below _ (in_table c.in-Err.refusal.row))
