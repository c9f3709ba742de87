mod Handed
