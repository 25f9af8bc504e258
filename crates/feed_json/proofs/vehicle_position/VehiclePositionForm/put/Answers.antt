use Rattle.feed_json.proofs.vehicle_position.VehiclePositionForm.put.Goals as goal

-- each slot puts its member behind those before it
pub returns : goal.returns
returns c =
    rw (
      ← c.in_ok-put_optional.ensures,
      ← c.in_ok-put_optional-2.ensures,
      ← c.in_ok-put_u32.ensures,
      ← c.in_ok-put_u32-2.ensures,
      ← c.in_ok-put_u64.ensures,
      ← c.in_ok-put_u32-3.ensures,
      ← c.in_ok-put_optional_text.ensures,
      ← c.in_ok-put_optional-3.ensures,
      ← c.in_ok-put_u32-4.ensures,
    ) c.put_unknown.ensures
