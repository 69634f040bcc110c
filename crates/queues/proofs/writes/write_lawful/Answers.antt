use Rattle.queues.proofs.Linking.{linked}
use Rattle.queues.proofs.Whole.{one_forest, ahead_all, ready_all, wrote_all}
use Rattle.queues.proofs.writes.write_lawful.Goals as goal

pub write_siblings-requires : goal.write_siblings-requires
write_siblings-requires g c = ready_all _ _ c.requires.lawful c.requires.few c.requires.room

pub returns : goal.returns
returns g c = record { one = one_forest _ c.requires.lawful; linked = linked; writes = λ f e. wrote_all (c.write_siblings.ensures f _ (ahead_all _ f e)) }
