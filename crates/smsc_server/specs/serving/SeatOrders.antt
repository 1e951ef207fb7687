-- What is ordered of the endpoint at a seat, by the number that the seat has: 1 ends its connection, 2 gives its place to a newer link, and 4 sends
-- it unbind. 0 is nothing, and 3 is nobody there.
use Rattle.std.specs.Prelude.{ℕ, ◌==◌, Bool, true, false, if◌then◌else◌}
use Rattle.smsc_loop.specs.declared.surroundings.Order.{Order}
use Rattle.smsc_loop.specs.declared.surroundings.Order.TheVariants.{Stay, Unbind, End, Replaced}

-- a run that ends in good order sends each session unbind
abbrev pub order_of_run : Bool → Order
order_of_run true = Unbind
order_of_run false = Stay

-- what is ordered of the one seat comes before that
abbrev pub order_of_seat : Bool → ℕ → Order
order_of_seat stopped number =
    if number == 1 then End else (if number == 2 then Replaced else (if number == 4 then Unbind else order_of_run stopped))

-- a run that ends at once ends each connection
abbrev pub order_of : Bool → Bool → ℕ → Order
order_of true stopped number = End
order_of false stopped number = order_of_seat stopped number
