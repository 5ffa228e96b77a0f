-- What the refusal of each call says.
use Rattle.std.specs.Prelude.{◌≡◌, ℕ, ◌+◌, nat_lt, ◌&&◌, List, Some, None, if◌then◌else◌, ⊤}
use Rattle.std.specs.declared.option.Option.{Option}
use Rattle.c2_new_signature.specs.declared.error.MessageError.{MessageError}
use Rattle.c2_new_signature.specs.declared.error.MessageError.TheVariants as error
use Rattle.c2_new_signature.specs.Message.{IsRefused}

-- how many bytes the shortest padding has: the key `pad`, and no bytes under it
abbrev pub least_padding : ℕ
least_padding = 5

-- How many bytes are needed for a message of `bare` bytes, where those that are reserved are too few: the message's own, or where
-- they leave fewer than the shortest padding has, as many as leave just these.
abbrev pub reserve_needed : ℕ → ℕ → Option ℕ
reserve_needed reserve bare =
    if nat_lt reserve bare then Some bare
    else if nat_lt bare reserve && nat_lt reserve (bare + least_padding) then Some (bare + least_padding)
    else None

-- a call that reads a message refuses so
abbrev pub RefusesMessage : List ℕ → List ℕ → MessageError → Type 0
RefusesMessage protected bytes (error.BadSignature test) = IsRefused protected bytes test
RefusesMessage protected bytes error.NoMemory = ⊤
RefusesMessage protected bytes e = ⊥

-- a call that pads a message of so many bytes refuses so
abbrev pub RefusesReserve : ℕ → ℕ → MessageError → Type 0
RefusesReserve reserve bare (error.ReserveTooSmall needed) = reserve_needed reserve bare ≡ Some needed
RefusesReserve reserve bare error.NoMemory = ⊤
RefusesReserve reserve bare e = ⊥
