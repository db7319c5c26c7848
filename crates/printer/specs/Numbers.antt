-- A state and a mode by number, as a caller may hold them in four numbers and a byte. Assumes nothing: these are definitions.
use Rattle.std.specs.Prelude.{Option, Some, None, ℕ, zero, suc, List, not, get_or, eqb}
use Rattle.parser.specs.Digits.{if-then}
use Rattle.pieces.specs.declared.mode.Mode.{Mode}
use Rattle.pieces.specs.declared.mode.Mode.TheVariants.{Plain, Short}
use Rattle.printer.specs.Lay.{State, World, world}

-- the place; the error, or 3 where the buffer is full; whether a target was damaged, which is any number but 0; the bytes written
abbrev pub numbered : List ℕ → State
numbered l =
    record {
      place = get_or l 0 0;
      error = if-then (eqb (get_or l 1 0) 3) 0 (get_or l 1 0);
      damaged = not (eqb (get_or l 2 0) 0);
      written = get_or l 3 0;
      full = eqb (get_or l 1 0) 3;
    }

-- nothing is printed; plain; any other number is short
abbrev pub mode_by : ℕ → Option Mode
mode_by zero = None
mode_by (suc zero) = Some Plain
mode_by (suc (suc m)) = Some Short

-- a buffer and a state's numbers
abbrev pub at_numbers : List ℕ → List ℕ → World
at_numbers b l = world b (numbered l)
