use Rattle.std.proofs.Common.{inl}
use Rattle.geo_exact.proofs.PassedOn.{passed_on, passed_if}
use Rattle.city_layers.proofs.area.area.Goals as goal

pub returns-in_err-text-clause-refuses : goal.returns-in_err-text-clause-refuses
returns-in_err-text-clause-refuses g c = λ fault h.
    passed_on _ _ _ c.from_residual.ensures.1 (c.in_err-text.ensures.refuses fault
    (rw (c.as_slice.ensures.value, c.index_bytes.ensures.bytes) h))

pub returns-in_err-text-clause-reports : goal.returns-in_err-text-clause-reports
returns-in_err-text-clause-reports g c = λ rings h.
    passed_if _ _ _ c.from_residual.ensures.1
    (inl (c.in_err-text.ensures.reads rings (rw (c.as_slice.ensures.value, c.index_bytes.ensures.bytes) h)))

pub returns-in_err-put_all-clause-refuses : goal.returns-in_err-put_all-clause-refuses
returns-in_err-put_all-clause-refuses g c =
    λ fault h. absurd (c.in_ok-text.ensures.refuses fault (rw (c.as_slice.ensures.value, c.index_bytes.ensures.bytes) h))

pub returns-clause-refuses : goal.returns-clause-refuses
returns-clause-refuses g c = λ fault h. c.in_ok-text.ensures.refuses fault (rw (c.as_slice.ensures.value, c.index_bytes.ensures.bytes) h)
