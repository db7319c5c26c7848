-- A part of a caller's own bytes. Assumes nothing: these are definitions.
use Rattle.std.specs.Prelude.{◌≡◌, List, ℕ, ◌+◌, drop}
use Rattle.std.specs.Borrow.{Bor}

-- r is s's own bytes from n on
pub record TailOf (s : Bor (List ℕ)) (n : ℕ) (r : Bor (List ℕ)) : Type 0 where
  pub block : r.ref_ptr.0 ≡ s.ref_ptr.0
  pub start : r.ref_ptr.1 ≡ s.ref_ptr.1 + n
  pub bytes : r.now ≡ drop n s.now
