-- What a frame is printed as.
use Rattle.std.specs.Prelude.{ℕ, List, [], ◌-◌, ◌^◌, true, false}
use Rattle.std.specs.Fmt.{padded_integral, format_spec, digits}
use Rattle.daliframe.specs.declared.forward.Frame.{Frame}
use Rattle.daliframe.specs.declared.forward.Frame.TheVariants.{Forward16, Forward24}

-- upper hexadecimal digits, with zeros in front up to a width: fill ` `, no align, the flag `0`, and no precision
abbrev pub upper_hex : ℕ → ℕ → List ℕ
upper_hex width n = padded_integral (format_spec 32 0 4 width (2 ^ 64 - 1)) false [] (digits 16 true n)

-- four digits of 16 bits, six of 24
abbrev pub printed : Frame → List ℕ
printed (Forward16 frame) = upper_hex 4 frame
printed (Forward24 frame) = upper_hex 6 frame
