-- Laws of instances.
pub use Rattle.sx_term.proofs.Instancing.{instance-same, instances-same, map_instance-same, instance-instance, instances-instances, instance-bound, map_instance-bound, instance-determines, instances-determine, map_instance-determines}
