-- Texts of answers.
use Rattle.std.proofs.Common.{◌≡◌, ℕ, ◌+◌, ◌/◌, ◌%◌, ◌<◌, inl, inr, length, Option, Some, None, refl, arith}
use Rattle.sms_base.specs.MessageId.{digit, id_text}
use Rattle.sms_base.specs.UtcClock.{clock_of}
use Rattle.smpp_pdu.specs.Fields.{IsText, IsTimeText}
use Rattle.smsc_endpoint.specs.Responses.{final_date}

plain_digit : (n : ℕ) → 0 < digit n
plain_digit n = omega arith

pub id_is_text : (id : ℕ) → IsText 65 (id_text id)
id_is_text id =
    let ten : length (id_text id) ≡ 10 = refl in record {
      no_nul = (
        plain_digit (id / 1000000000),
        (
          plain_digit (id / 100000000),
          (
            plain_digit (id / 10000000),
            (
              plain_digit (id / 1000000),
              (
                plain_digit (id / 100000),
                (plain_digit (id / 10000), (plain_digit (id / 1000), (plain_digit (id / 100), (plain_digit (id / 10), (plain_digit id, tt))))),
              ),
            ),
          ),
        ),
      );
      short = omega (arith, ten);
    }

tens_plain : (n : ℕ) → 0 < 48 + n / 10
tens_plain n = omega arith

pub date_is_time : (done : Option ℕ) → IsTimeText (final_date done)
date_is_time None = record { time = record { no_nul = tt; short = omega arith }; length_is = inl refl }
date_is_time (Some moment) =
    let c = clock_of moment in
    let sixteen : length (final_date (Some moment)) ≡ 16 = refl in
    let zero_plain : 0 < 48 = omega arith in
    let plus_plain : 0 < 43 = omega arith in record {
      time = record {
        no_nul = (
          tens_plain c.year,
          (
            plain_digit c.year,
            (
              tens_plain c.month,
              (
                plain_digit c.month,
                (
                  tens_plain c.day,
                  (
                    plain_digit c.day,
                    (
                      tens_plain c.hour,
                      (
                        plain_digit c.hour,
                        (
                          tens_plain c.minute,
                          (
                            plain_digit c.minute,
                            (
                              tens_plain (moment % 60),
                              (plain_digit (moment % 60), (zero_plain, (zero_plain, (zero_plain, (plus_plain, tt))))),
                            ),
                          ),
                        ),
                      ),
                    ),
                  ),
                ),
              ),
            ),
          ),
        );
        short = omega (arith, sixteen);
      };
      length_is = inr sixteen;
    }
