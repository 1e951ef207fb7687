-- The moment of a time of SMPP.
use Rattle.std.proofs.Common.{◌≡◌, ℕ, List, Option, Some, None, Result, Ok, Err, refl}
use Rattle.sms_base.specs.SmppTime.{IsSmppTime, smpp_time_in}
use Rattle.sms_base.proofs.SmppTimes.{time_is}

none_by : {E : Type 0} (octets : List ℕ) (now : ℕ) (fault : E) (o : Option ℕ) → smpp_time_in octets now ≡ o → ((m : ℕ) → IsSmppTime octets now m → (let r : Result ℕ E = Err fault in r ≡ Ok m)) → None ≡ o
none_by octets now fault None e only = refl
none_by octets now fault (Some m) e only = let bad = only m (time_is octets now m e) in absurd cc

pub no_time : {E : Type 0} (octets : List ℕ) (now : ℕ) (fault : E) → ((m : ℕ) → IsSmppTime octets now m → (let r : Result ℕ E = Err fault in r ≡ Ok m)) → None ≡ smpp_time_in octets now
no_time octets now fault only = none_by octets now fault (smpp_time_in octets now) refl only
