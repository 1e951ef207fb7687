-- The next reference that is not held.
use Rattle.std.proofs.Common.{◌≡◌, ℕ, zero, suc, ◌+◌, ◌-◌, ◌%◌, ◌<◌, List, true, refl, arith, false}
use Rattle.sms_handset_rows.specs.inbox.Groups.{is_among}
use Rattle.sms_handset_rows.specs.outbox.References.{free_from}

pub free_held : (turns n : ℕ) (held : List ℕ) → 0 < turns → is_among n held ≡ true → free_from turns n held ≡ free_from (turns - 1) ((n + 1) % 256) held
unfolding free_from
free_held zero n held some e = absurd (omega arith)
free_held (suc k) n held some e =
    let left : suc k - 1 ≡ k = omega arith in
    rw left (rw e refl)

pub free_here : (turns n : ℕ) (held : List ℕ) → is_among n held ≡ false → free_from turns n held ≡ n
unfolding free_from
free_here zero n held e = refl
free_here (suc k) n held e = rw e refl

pub free_last : (turns n : ℕ) (held : List ℕ) → turns ≡ 0 → free_from turns n held ≡ n
unfolding free_from
free_last zero n held e = refl
free_last (suc k) n held e = absurd (omega arith)
