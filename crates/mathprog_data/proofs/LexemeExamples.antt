-- What symbols name, on examples.
use Rattle.mathprog_data.proofs.Common.{◌≡◌, refl, false, Bare, Quoted, name_of, undoubled}
use Rattle.std.specs.Prelude.{codes}

-- zeros before digits aren't part of the name
leading_zeros : name_of (Bare (codes "0042")) ≡ codes "42"
leading_zeros = refl

-- zeros alone name one
zeros : name_of (Bare (codes "000")) ≡ codes "0"
zeros = refl

-- a symbol with any other byte names its bytes
with_a_point : name_of (Bare (codes "01.0")) ≡ codes "01.0"
with_a_point = refl

-- quoted digits name their bytes
quoted_digits : name_of (Quoted (codes "0042")) ≡ codes "0042"
quoted_digits = refl

-- a doubled quote names one, also beside others
doubled : undoubled 39 false (codes "a''b''''c") ≡ codes "a'b''c"
doubled = refl

-- the other quote names itself
other_quote : undoubled 34 false (codes "a''b") ≡ codes "a''b"
other_quote = refl
