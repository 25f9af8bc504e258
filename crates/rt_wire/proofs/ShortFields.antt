-- Fields whose tag is of one byte, with a number, four bytes, or a payload with a length of one byte.
use Rattle.std.proofs.Common.{◌≡◌, ℕ, ◌+◌, ◌-◌, ◌/◌, ◌%◌, ◌^◌, ◌<◌, ◌≤◌, false, ltb, leb, List, [], ◌∷◌, length, drop, slice_index_or, Some, Ok, refl, arith}
use Rattle.std.specs.Prelude.{slice_range}
use Rattle.std.specs.Int.{w32}
use Rattle.std.proofs.lemmas.Bool.{le-ltb, lt-leb}
use Rattle.std.proofs.lemmas.List.{drop_more}
use Rattle.rt_wire.specs.declared.tag.WireType.{WireType}
use Rattle.rt_wire.specs.declared.tag.WireType.TheVariants as types
use Rattle.rt_wire.specs.Varint.{varint_at}
use Rattle.rt_wire.specs.Fields.{Varint, Len, Fixed32}
use Rattle.rt_wire.specs.Reading.{varint_from, fixed_from, wire_of, tag_from, payload_from}
use Rattle.rt_wire.specs.Placed.{field_from}
use Rattle.rt_wire.proofs.VarintLaws.{only}

one_front : (x : ℕ) (rest : List ℕ) → x < 128 → varint_at (x ∷ rest) ≡ Ok (x, 1)
one_front x rest lt = only (x ∷ []) rest x (record { short = omega arith; ends = lt; number = omega arith })

short_varint : (bytes : List ℕ) (at : ℕ) → at < length bytes → slice_index_or bytes at 0 < 128 → varint_from bytes at ≡ Ok (slice_index_or bytes at 0, at + 1)
unfolding varint_from
short_varint bytes at here low = rw (drop_more bytes at 0 here, one_front (slice_index_or bytes at 0) (drop (at + 1) bytes) low) refl

short_tag : (bytes : List ℕ) (at : ℕ) (w : WireType) → at < length bytes → slice_index_or bytes at 0 < 128 → 8 ≤ slice_index_or bytes at 0 → wire_of (slice_index_or bytes at 0 % 8) ≡ Some w
    → tag_from bytes at ≡ Ok (record { at = at; number = slice_index_or bytes at 0 / 8; wire = w; next = at + 1 })
unfolding tag_from
short_tag bytes at w here low some e =
    let t = slice_index_or bytes at 0 in
    let big : leb (2 ^ 32) t ≡ false = lt-leb (2 ^ 32) t (omega arith) in
    let small : ltb t 8 ≡ false = le-ltb t 8 some in
    rw (short_varint bytes at here low, big, small, e) refl

-- a tag of one byte, and a byte behind it
pub record ShortTag (bytes : List ℕ) (at : ℕ) : Type 0 where
  pub here : at + 2 ≤ length bytes
  pub some : 8 ≤ slice_index_or bytes at 0
  pub low : slice_index_or bytes at 0 < 128

pub short_number : (bytes : List ℕ) (at number stop : ℕ) → ShortTag bytes at → slice_index_or bytes at 0 % 8 ≡ 0 → varint_from bytes (at + 1) ≡ Ok (number, stop)
    → field_from bytes at ≡ Ok (record { field = record { number = slice_index_or bytes at 0 / 8; value = Varint number }; start = at; body = at + 1; stop = stop })
unfolding field_from
short_number bytes at number stop h code e =
    rw (short_tag bytes at types.Varint (omega (arith, h.here)) h.low h.some (rw code refl), e) refl

pub short_fixed32 : (bytes : List ℕ) (at number stop : ℕ) → ShortTag bytes at → slice_index_or bytes at 0 % 8 ≡ 5 → fixed_from w32 bytes (at + 1) ≡ Ok (number, stop)
    → field_from bytes at ≡ Ok (record { field = record { number = slice_index_or bytes at 0 / 8; value = Fixed32 number }; start = at; body = at + 1; stop = stop })
unfolding field_from
short_fixed32 bytes at number stop h code e =
    rw (short_tag bytes at types.Fixed32 (omega (arith, h.here)) h.low h.some (rw code refl), e) refl

payload_here : (bytes : List ℕ) (at : ℕ) → ShortTag bytes at → slice_index_or bytes (at + 1) 0 < 128 → slice_index_or bytes (at + 1) 0 ≤ length bytes - (at + 2)
    → payload_from bytes (at + 1) ≡ Ok (at + 2, at + 2 + slice_index_or bytes (at + 1) 0)
unfolding payload_from
payload_here bytes at h low fits =
    let two : at + 1 + 1 ≡ at + 2 = omega arith in
    let room : ltb (length bytes - (at + 2)) (slice_index_or bytes (at + 1) 0) ≡ false = le-ltb _ _ fits in
    rw (short_varint bytes (at + 1) (omega (arith, h.here)) low, two, room) refl

pub short_payload : (bytes : List ℕ) (at : ℕ) → ShortTag bytes at → slice_index_or bytes at 0 % 8 ≡ 2 → slice_index_or bytes (at + 1) 0 < 128 → slice_index_or bytes (at + 1) 0 ≤ length bytes - (at + 2)
    → field_from bytes at ≡ Ok (record {
      field = record { number = slice_index_or bytes at 0 / 8; value = Len (slice_range bytes (at + 2) (at + 2 + slice_index_or bytes (at + 1) 0)) };
      start = at;
      body = at + 2;
      stop = at + 2 + slice_index_or bytes (at + 1) 0;
    })
unfolding field_from
short_payload bytes at h code low fits =
    rw (short_tag bytes at types.Len (omega (arith, h.here)) h.low h.some (rw code refl), payload_here bytes at h low fits) refl
