mod Unrecorded
