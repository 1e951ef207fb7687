-- Columns of numbers, texts and octets: what a list owes of them.
use Rattle.std.proofs.Common.{Option, Some, None, List, [], ◌∷◌, ap₂, encode_utf8_all, ◌≡◌, ℕ, ℤ, pos, ◌<◌, ◌/◌, ◌%◌, Bool, true, false, cond, ◌&&◌, ◌==◌, refl, ap, sym, subst, length, nat_lt, ◌∙◌, arith, int_eq}
use Rattle.std.specs.Ordering.{is_eq}
use Rattle.std.proofs.lemmas.Int.{ints}
use Rattle.std.proofs.lemmas.Bool.{and_from}
use Rattle.std.proofs.lemmas.Bool.Decides.{nat_tests}
use lib.Utf8.{scalar, low_scalar}
use Rattle.sqlite.specs.declared.types.Value.{Value}
use Rattle.sqlite.specs.declared.types.Value.TheVariants.{Null, Int, Text}
use Rattle.sqlite.specs.Order.{Row}
use Rattle.sqlite.specs.Table.{Table}
use Rattle.sqlite_schema.specs.declared.schema.Column.{Column}
use Rattle.std.specs.Str.{all_scalars}
use Rattle.std.proofs.lemmas.Str.{chars-encodes}
use Rattle.sms_base.proofs.Bools.{and_true}
use Rattle.sqlite.specs.Ops.{unary}
use Rattle.sqlite_sql.specs.Ops.{binary, is_true, from_truth}
use Rattle.sqlite_sql.specs.declared.ops.BinaryOp.TheVariants.{Compare}
use Rattle.sqlite_sql.specs.declared.ops.CompareOp.TheVariants.{Eq}
use Rattle.sqlite.specs.Collation.TheVariants.{Binary}
use Rattle.sqlite.specs.Kind.TheVariants.{Integer}
use Rattle.sqlite.specs.Cast.{cast}
use Rattle.sqlite_rules.specs.Cast.{cast_all, cast_row}
use Rattle.sqlite_value.proofs.OrderLemmas.{value_cmp-Int}
use Rattle.sqlite_value.specs.Order.{column}
use Rattle.sms_rows.specs.table.Keys.{pair_key}
use Rattle.sms_base.specs.AddressKind.{type_number}
use Rattle.sms_base.specs.Msisdn.{AllDigits}
use Rattle.sms_base.specs.SemiOctet.{is_digit}
use Rattle.sms_base.specs.declared.address.Address.{Address}
use Rattle.sms_base.specs.declared.type_of_number.TypeOfNumber.{TypeOfNumber}
use Rattle.sms_base.specs.declared.type_of_number.TypeOfNumber.TheVariants.{Unknown, International, National, NetworkSpecific, Subscriber, Alphanumeric, Abbreviated}
use Rattle.sms_store_sql.specs.listing.Addresses.{address_in, ton_in}
use Rattle.sms_store_sql.specs.listing.Reading.{HasAt}
use Rattle.sms_store_sql.specs.listing.Columns.{number, flag, flag_in, or_none, characters_in, if_given}

numbers_agree : (a b : ℕ) → int_eq (pos a) (pos b) ≡ (a == b)
numbers_agree a b = grind (arith, ints, nat_tests)

truth_back : (b : Bool) → is_true (from_truth (Some b)) ≡ b
truth_back true = refl
truth_back false = refl

-- equality of numbers in a WHERE
pub same_number : (a b : ℕ) → is_true (binary (Compare Eq Binary) (Int (pos a)) (Int (pos b))) ≡ (a == b)
unfolding binary
same_number a b = truth_back _ ∙ ap is_eq (value_cmp-Int (pos a) (pos b)) ∙ numbers_agree a b

either : (b : Bool) (x : Value) → cond b x x ≡ x
either true x = refl
either false x = refl

pub cast_null : cast Integer Null ≡ Null
unfolding unary
cast_null = either _ Null

pub cast_int : (n : ℤ) → cast Integer (Int n) ≡ Int n
unfolding unary
cast_int n = either _ (Int n)

-- a pair is found by its two numbers
pub pair_found : (a b n : ℕ) → b < 256 → ((a == n / 256) && (b == n % 256)) ≡ (pair_key a b == n)
pair_found a b n small = grind (arith, nat_tests)

-- and two pairs are one where their numbers are
pub pairs_agree : (a b c d : ℕ) → b < 256 → d < 256 → ((a == c) && (b == d)) ≡ (pair_key a b == pair_key c d)
pairs_agree a b c d small few = grind (arith, nat_tests)

-- what the column's kind leaves as it is
pub cast_optional : {A : Type 0} (write : A → Value) (o : Option A) → ((x : A) → cast Integer (write x) ≡ write x) → cast Integer (or_none write o) ≡ or_none write o
cast_optional write None stays = cast_null
cast_optional write (Some x) stays = stays x

pub cast_flag : (b : Bool) → cast Integer (flag b) ≡ flag b
cast_flag true = cast_int (pos 1)
cast_flag false = cast_int (pos 0)

pub flag_back : (b : Bool) → flag_in (flag b) ≡ b
flag_back true = refl
flag_back false = refl

-- a row is found by one number
pub one_found : (a n : ℕ) → (is_true (binary (Compare Eq Binary) (Int (pos a)) (Int (pos n))) && true) ≡ (a == n)
one_found a n = and_true _ ∙ same_number a n

-- each value is as the kind of its column leaves it
abbrev pub AllSuit : List Column → Row → Type 0
AllSuit [] vs = Unit {0}
AllSuit (c ∷ cs) [] = ⊥
AllSuit (c ∷ cs) (v ∷ vs) = (cast c.kind v ≡ v) × AllSuit cs vs

cast_all_same : (cs : List Column) (vs : Row) → AllSuit cs vs → cast_all cs vs ≡ vs
cast_all_same [] vs h = refl
cast_all_same (c ∷ cs) [] h = absurd h
cast_all_same (c ∷ cs) (v ∷ vs) h = ap₂ (λ a l. a ∷ l) h.0 (cast_all_same cs vs h.1)

pub cast_row_same : (table : Table) (vs : Row) → AllSuit table.columns vs → cast_row table (Null ∷ vs) ≡ Null ∷ vs
cast_row_same table vs h = ap₂ (λ a l. a ∷ l) cast_null (cast_all_same table.columns vs h)

-- a row has what its columns have
pub has_in : (row cols : Row) (at : ℕ) (value : Value) → row ≡ cols → nat_lt at (length cols) ≡ true → column cols at ≡ value → HasAt row at value
has_in row cols at value same low is = record {
  inside = subst (λ (r : Row). at < length r) (sym same) (grind (arith, nat_tests, low));
  is = ap (λ (r : Row). column r at) same ∙ is;
}

-- a text is read as the characters that it was written from
pub characters_back : (characters : List ℕ) → all_scalars characters ≡ true → characters_in (Text (encode_utf8_all characters)) ≡ characters
characters_back characters are = chars-encodes characters are

digit_low : (c : ℕ) → is_digit c ≡ true → c < 55296
digit_low c h = grind (arith, nat_tests)

-- digits are characters
pub digits_spelled : (digits : List ℕ) → AllDigits digits → all_scalars digits ≡ true
digits_spelled [] h = refl
digits_spelled (c ∷ cs) h = and_from (scalar c) (all_scalars cs) (low_scalar c (digit_low c h.0)) (digits_spelled cs h.1)

-- what there may be is read as it was written
pub given_back : {A : Type 0} (write : A → Value) (read : Value → A) (o : Option A) → ((x : A) → if_given read (write x) ≡ Some x) → if_given read (or_none write o) ≡ o
given_back write read None back = refl
given_back write read (Some x) back = back x

pub ton_octet : (ton : TypeOfNumber) → type_number ton < 256
ton_octet Unknown = omega arith
ton_octet International = omega arith
ton_octet National = omega arith
ton_octet NetworkSpecific = omega arith
ton_octet Subscriber = omega arith
ton_octet Alphanumeric = omega arith
ton_octet Abbreviated = omega arith

ton_back : (ton : TypeOfNumber) → ton_in (type_number ton) ≡ ton
ton_back Unknown = refl
ton_back International = refl
ton_back National = refl
ton_back NetworkSpecific = refl
ton_back Subscriber = refl
ton_back Alphanumeric = refl
ton_back Abbreviated = refl

-- an address is read as it was written
pub address_back : (a : Address) → all_scalars a.digits ≡ true → address_in (number (type_number a.ton)) (number a.npi) (Text (encode_utf8_all a.digits)) ≡ a
address_back a are =
    let ton = ton_back a.ton in
    let digits = characters_back a.digits are in
    λ i. record { ton = ton i; npi = a.npi; digits = digits i }
